use Rattle.std.proofs.Common.{rules, tests}
use Rattle.net.specs.Layout.{net_of}
use Rattle.waits.proofs.Slow.{first_slow}
use Rattle.waits.proofs.patience.Patience.slow.Goals as goal

pub returns : goal.returns
returns c = first_slow (net_of c.args.self.now.plan.now.layout) _ _ c.first_cell.ensures (λ d p b h. search (rules, tests))
