use Rattle.std.proofs.Common.{refl, vec_items, ◌∙◌, ap, length, arith}
use Rattle.table.specs.declared.states.State.{State}
use Rattle.table.proofs.Stepping.{relaxed_is}
use Rattle.table.proofs.sweep.Sweep.step.Goals as goal

pub returns : goal.returns
returns c =
    let w = c.args.self.now in
    let z = w.two_for_each in
    record {
      tree = refl;
      relaxed = relaxed_is w.tree.now.cabling.switches (vec_items w.states) c.args.x c.args.y c.args.k c.index_mut.result.now c.index.result.now c.add.new.self (omega arith) (omega arith) c.index_mut.ensures.value c.index.ensures
          (ap (λ (s : State). length (vec_items s.row)) c.index_mut.ensures.value ∙ w.rows c.args.x c.index_mut.result.now (omega arith))
          c.add.ensures.reached c.add.ensures.before c.add.ensures.row;
    }
