use Rattle.std.proofs.Common.{◌≡◌, ℕ, ◌+◌, ◌<◌, List, ◌++◌, length, get_or, take, drop, vec_items, sym, ap, ◌∙◌, subst, arith}
use Rattle.std.proofs.lemmas.List.{take_at, length-replicate}
use Rattle.tree.specs.Planted.{graph_in, up_in}
use Rattle.table.specs.Marked.{Walks}
use Rattle.table.proofs.Walking.{Doors, doors_none, doors_more, doors_all}
use Rattle.table.proofs.Starting.{all_same}
use Rattle.table.proofs.sweep.Onward.met.Goals as goal

pub loop-s-init : goal.loop-s-init
loop-s-init c =
    let q = c.in_ok-met.ensures.items_if_clones_equal (λ y e. e) in
    doors_none (graph_in c.args.self.now.swept.tree.now) (up_in c.args.self.now.swept.tree.now) (vec_items c.in_ok-met.met) (ap length q ∙ length-replicate {A = ℕ} c.links.result 0 ∙ c.links.ensures) (λ i. ap (λ (xs : List ℕ). get_or xs i 0) q ∙ all_same c.links.result i 0)

pub loop-s-preserved : goal.loop-s-preserved
loop-s-preserved c =
    let z : length c.walk_door.new.met ≡ length (vec_items c.loop-s.met) = c.walk_door.auto.met ∙ ap length c.deref_mut.ensures.value in
    let e : take c.loop-s.met.len (c.walk_door.new.met ++ drop (length c.walk_door.new.met) (vec_items c.loop-s.met)) ≡ c.walk_door.new.met =
    take_at c.walk_door.new.met (drop (length c.walk_door.new.met) (vec_items c.loop-s.met)) c.loop-s.met.len (c.walk_door.auto.met ∙ c.deref_mut.ensures.len) in
    subst (λ (ms : List ℕ). Doors (graph_in c.args.self.now.swept.tree.now) (up_in c.args.self.now.swept.tree.now) (c.loop-s.s + 1) ms) (sym e)
    (doors_more (graph_in c.args.self.now.swept.tree.now) (up_in c.args.self.now.swept.tree.now) c.loop-s.s (vec_items c.loop-s.met) c.walk_door.new.met z c.loop-s.invariant
    (subst (λ (ms : List ℕ). Walks (graph_in c.args.self.now.swept.tree.now) (up_in c.args.self.now.swept.tree.now) c.loop-s.s (λ q. q < (graph_in c.args.self.now.swept.tree.now).n) ms c.walk_door.new.met) c.deref_mut.ensures.value c.walk_door.ensures))

pub returns : goal.returns
returns c = doors_all (graph_in c.args.self.now.swept.tree.now) (up_in c.args.self.now.swept.tree.now) c.loop-s.s (vec_items c.loop-s.met) (omega arith) c.loop-s.invariant
