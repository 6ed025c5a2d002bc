use Rattle.std.proofs.Common.{vec_items}
use Rattle.table.proofs.Starting.{Started}
use Rattle.table.proofs.sweep.Sweep.new.Given as goal

abbrev pub invariant-loop-i : goal.invariant-loop-i
invariant-loop-i l = Started l.n (vec_items l.states) l.i
