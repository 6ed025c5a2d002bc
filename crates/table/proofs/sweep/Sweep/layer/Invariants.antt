use Rattle.table.specs.Swept.{Underway}
use Rattle.table.proofs.sweep.Sweep.layer.Given as goal

abbrev pub invariant-loop-k : goal.invariant-loop-k
invariant-loop-k l = Underway l.fn.self l.k l.self
