use Rattle.std.proofs.Common.{vec_items}
use Rattle.table.proofs.Swept.{Kept}
use Rattle.table.proofs.sweep.Sweep.begin.Given as goal

abbrev pub invariant-loop-state : goal.invariant-loop-state
invariant-loop-state l = Kept (vec_items l.fn.self.states) l.state-index l.state-items
