use Rattle.std.proofs.Common.{◌≡◌, ◌++◌, List, All, length, take, drop, vec_items, refl, sym, ap, ◌∙◌, subst, arith}
use Rattle.std.proofs.lemmas.List.{take_at}
use Rattle.table.specs.declared.states.State.{State}
use Rattle.table.proofs.Swept.{Kept, kept_more, kept_rows, begun}
use Rattle.table.proofs.sweep.Sweep.begin.Goals as goal

pub loop-state-preserved : goal.loop-state-preserved
loop-state-preserved c =
    kept_more (vec_items c.args.self.now.states) c.loop-state.state-items c.loop-state.state-index c.state-item.result _ (omega arith) c.state-item.is
    (ap (λ (s : State). vec_items s.row) (sym c.state-item.is)) (ap (λ (s : State). s.reached) (sym c.state-item.is)) (ap (λ (s : State). s.reached) (sym c.state-item.is)) c.loop-state.invariant

pub invariant_of-self : goal.invariant_of-self
invariant_of-self c =
    let w = c.args.self.now in
    let e : take w.states.len (c.loop-state.state-items ++ drop (length c.loop-state.state-items) (vec_items w.states)) ≡ c.loop-state.state-items =
    take_at c.loop-state.state-items (drop (length c.loop-state.state-items) (vec_items w.states)) w.states.len (c.loop-state.auto.state-items ∙ c.deref_mut-state-items.ensures.len) in
    record {
      two_for_each = ap length e ∙ c.loop-state.auto.state-items ∙ ap length c.deref_mut-state-items.ensures.value ∙ w.two_for_each;
      rows = subst (λ (ss : List State). All (λ s. length (vec_items s.row) ≡ w.tree.now.cabling.switches) ss) (sym e)
          (kept_rows w.tree.now.cabling.switches c.loop-state.state-index (vec_items w.states) c.loop-state.state-items c.loop-state.invariant w.rows);
    }

pub returns : goal.returns
returns c =
    let w = c.args.self.now in
    let e : take w.states.len (c.loop-state.state-items ++ drop (length c.loop-state.state-items) (vec_items w.states)) ≡ c.loop-state.state-items =
    take_at c.loop-state.state-items (drop (length c.loop-state.state-items) (vec_items w.states)) w.states.len (c.loop-state.auto.state-items ∙ c.deref_mut-state-items.ensures.len) in
    begun w _ c.loop-state.state-index refl (let z = ap length e in omega arith) (subst (λ (ss : List State). Kept (vec_items w.states) c.loop-state.state-index ss) (sym e) c.loop-state.invariant)
