use Rattle.std.proofs.Common.{◌≡◌, ℕ, suc, ◌+◌, ◌-◌, ◌<◌, not, find, get_or, vec_items, vec_len, IsSome, Some, ◌∙◌, sym, subst, ap, arith}
use Rattle.std.proofs.lemmas.List.{get_or_read}
use Rattle.std.specs.List.{range_with_len}
use Rattle.graph.specs.Sets.{has}
use Rattle.graph.specs.Graph.{Graph}
use Rattle.graph.specs.Layers.{Reached}
use Rattle.graph.specs.Reach.{over}
use Rattle.graph.specs.Tree.{Joined, Lost, root}
use Rattle.graph.proofs.Joining.{joins_by, lost_by}
use Rattle.graph.proofs.Rooted.{Late, root_found, none_yet, late_more}
use Rattle.graph.proofs.layers.Layers.join.Goals as goal
use Rattle.graph.proofs.layers.Layers.join.Goals.{After-lowest_missing}

pub returns-in-Some : goal.returns-in-Some
returns-in-Some c =
    let y = c.loop-j.self in
    let r = c.in-Some.root in
    let h = c.in-Some.ensures in
    let n : vec_len y.sets ≡ vec_len c.args.self.sets = ap (λ (g : Graph). g.n) c.loop-j.invariant.same in
    subst (λ (g : Graph). (r ≡ root g) × (r < g.n) × Joined g) c.loop-j.invariant.same
    (joins_by (over y) y.linked r h.0 (root_found (over y) (c.loop-j._j - 1) (vec_items y.sets) c.loop-j.invariant.late (omega arith) r h.0 h.1))

pub loop-j-preserved : goal.loop-j-preserved
loop-j-preserved c =
    let y = c.loop-j.self in
    let n : vec_len y.sets ≡ vec_len c.args.self.sets = ap (λ (g : Graph). g.n) c.loop-j.invariant.same in
    let e : suc (c.loop-j._j - 1) ≡ c.loop-j._j + 1 - 1 = omega arith in
    let h = late_more (over y) (c.loop-j._j - 1) (vec_items y.sets) c.loop-j.invariant.late (omega arith) (vec_items c.layer.new.self.sets) c.in_default.ensures c.layer.ensures.more in
    record {
      same = c.layer.ensures.same ∙ c.loop-j.invariant.same;
      late = subst (λ (g : Graph). Late g (c.loop-j._j + 1 - 1) (vec_items c.layer.new.self.sets)) (sym c.layer.ensures.same)
          (subst (λ (j : ℕ). Late (over y) j (vec_items c.layer.new.self.sets)) e h);
    }

pub returns-in-Some-first_full : goal.returns-in-Some-first_full
returns-in-Some-first_full c =
    let y = c.loop-j.self in
    let r = c.in-Some-first_full.root in
    let h = c.in-Some-first_full.ensures in
    let n : vec_len y.sets ≡ vec_len c.args.self.sets = ap (λ (g : Graph). g.n) c.loop-j.invariant.same in
    let s = y.linked.some in
    let a = c.loop-j.auto._j-end in
    subst (λ (g : Graph). (r ≡ root g) × (r < g.n) × Joined g) c.loop-j.invariant.same
    (joins_by (over y) y.linked r h.0 (root_found (over y) (c.loop-j._j - 1) (vec_items y.sets) c.loop-j.invariant.late (omega arith) r h.0 h.1))

-- what is known when no switch has reached all
lost_in : (c : After-lowest_missing) → let y = c.loop-j.self in IsSome c.lowest_missing.result × ((s : ℕ) → c.lowest_missing.result ≡ Some s → Lost (over y) s)
lost_in c =
    let y = c.loop-j.self in
    let n : vec_len y.sets ≡ vec_len c.args.self.sets = ap (λ (g : Graph). g.n) c.loop-j.invariant.same in
    let s = y.linked.some in
    let w : c.index.result.now ≡ get_or (vec_items y.sets) 0 0 = get_or_read (vec_items y.sets) _ _ (omega arith) c.index.ensures 0 in
    let f = λ (w n : ℕ). find (λ i. not (has w i)) (range_with_len 0 n) in
    let h = c.loop-j.invariant.late in
    let far = none_yet (over y) (c.loop-j._j - 1) (vec_items y.sets) h (omega arith) c.in-None.ensures in
    let e : c.loop-j._j - 1 ≡ vec_len y.sets - 1 = omega arith in
    lost_by (over y) y.linked (vec_items y.sets) (λ t l. let b = far t l in omega arith) (subst (λ (j : ℕ). Reached (over y) j (vec_items y.sets)) e h.reached)
    c.lowest_missing.result (c.lowest_missing.ensures ∙ ap (λ (x : ℕ). f x c.len.result) w ∙ ap (f (get_or (vec_items y.sets) 0 0)) c.len.ensures)

pub unwrap-requires : goal.unwrap-requires
unwrap-requires c = (lost_in c).0

pub returns : goal.returns
returns c =
    subst (λ (g : Graph). Lost g c.unwrap.result) c.loop-j.invariant.same ((lost_in (goal.at.returns c).After-lowest_missing).1 c.unwrap.result c.unwrap.ensures)
