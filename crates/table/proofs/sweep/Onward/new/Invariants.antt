use Rattle.table.proofs.Finding.{At}
use Rattle.table.proofs.sweep.Onward.new.Given as goal

abbrev pub invariant-loop-layer : goal.invariant-loop-layer
invariant-loop-layer l = At l.tree l._layer l.sweep
