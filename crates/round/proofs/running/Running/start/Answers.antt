use Rattle.std.proofs.Common.{rules}
use Rattle.round.proofs.Kept.{kept_at_start, started}
use Rattle.round.proofs.running.Running.start.Goals as goal

pub invariant_of-result : goal.invariant_of-result
invariant_of-result c = record { past = started c.in_ok-fabric.fabric (search rules) }

pub returns : goal.returns
returns c = (search rules, search rules, kept_at_start c.in_ok-fabric.fabric (search rules))
