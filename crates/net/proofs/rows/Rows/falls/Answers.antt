use Rattle.std.proofs.Common.{rules}
use Rattle.net.proofs.Falls.{first_fall}
use Rattle.net.proofs.rows.Rows.falls.Goals as goal

pub returns : goal.returns
returns c = first_fall c.args.self.now.layout.now c.args.self.now.sized _ _ c.first_cell.ensures (λ k p b h. search rules)
