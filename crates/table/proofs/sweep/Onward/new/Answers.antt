use Rattle.std.proofs.Common.{sym, subst, arith}
use Rattle.table.specs.declared.sweep.Sweep.{Sweep}
use Rattle.table.proofs.Finding.{AllFound, next_at, last_found, none_new}
use Rattle.table.proofs.sweep.Onward.new.Goals.{else-loop-layer-test, then-loop-layer-test+then-is_still}
use Rattle.table.proofs.sweep.Onward.new.Goals as goal

pub loop-layer-preserved : goal.loop-layer-preserved
loop-layer-preserved c = next_at c.args.tree.now c.loop-layer._layer c.loop-layer.sweep c.layer.new.self (omega arith) c.loop-layer.invariant c.layer.ensures

pub invariant_of-result : goal.invariant_of-result
invariant_of-result c =
    let all : AllFound c.loop-layer-test.sweep = elim c.loop-layer-test.branch [
      | else-loop-layer-test w ↦ subst (λ (s : Sweep). AllFound s) (sym w.sweep-is) (last_found c.args.tree.now c.loop-layer._layer c.loop-layer.sweep (omega arith) c.loop-layer.invariant)
      | then-loop-layer-test+then-is_still w ↦ subst (λ (s : Sweep). AllFound s) (sym w.sweep-is)
          (none_new c.args.tree.now c.loop-layer._layer c.loop-layer.sweep w.layer.new.self (omega arith) c.loop-layer.invariant w.layer.ensures (w.is_still.ensures.0 w.if-is_still.true))
    ] in
    record { found = all }
