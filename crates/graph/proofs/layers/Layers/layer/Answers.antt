use Rattle.std.proofs.Common.{◌≡◌, ℕ, List, map, length, get_or, vec_items, vec_len, sym, refl, ap, ◌∙◌, subst, arith}
use Rattle.std.proofs.Math.ListN.{length-map}
use Rattle.std.proofs.lemmas.List.{get_or_read}
use Rattle.graph.specs.Layers.{Added, Reached}
use Rattle.graph.specs.Reach.{over}
use Rattle.graph.proofs.Adding.{added_none, added_link}
use Rattle.graph.proofs.Layered.{reached_more}
use Rattle.graph.proofs.Links.{from_at, to_at, link_from, link_to}
use Rattle.graph.proofs.layers.Layers.layer.Goals as goal

pub loop-link-init : goal.loop-link-init
loop-link-init c =
    let e : vec_items c.copy_from_slice.new.self ≡ vec_items c.args.self.now.sets = c.copy_from_slice.ensures.items ∙ c.deref.ensures.value in
    record {
      same = refl;
      added = subst (λ (xs : List ℕ). Added (over c.args.self.now) (vec_items c.copy_from_slice.new.self) 0 xs) e (added_none (over c.args.self.now) (vec_items c.copy_from_slice.new.self));
    }

pub index-requires : goal.index-requires
index-requires c =
    let y = c.args.self.now in
    let a = link_from (vec_len y.sets) y.links.now y.linked.ends c.loop-link.link-index c.loop-link-test.true in
    let b = link_to (vec_len y.sets) y.links.now y.linked.ends c.loop-link.link-index c.loop-link-test.true in
    let l = c.copy_from_slice.ensures.len in
    let s = y.same in
    omega arith

pub index_mut-requires : goal.index_mut-requires
index_mut-requires c =
    let y = c.args.self.now in
    let a = link_from (vec_len y.sets) y.links.now y.linked.ends c.loop-link.link-index c.loop-link-test.true in
    omega arith

pub loop-link-preserved : goal.loop-link-preserved
loop-link-preserved c =
    let y = c.args.self.now in
    let k = c.loop-link.link-index in
    let before = vec_items c.copy_from_slice.new.self in
    let sets = vec_items c.loop-link.sets in
    let from = link_from (vec_len y.sets) y.links.now y.linked.ends k c.loop-link-test.true in
    let to = link_to (vec_len y.sets) y.links.now y.linked.ends k c.loop-link-test.true in
    let f = from_at y.links.now k in
    let t = to_at y.links.now k in
    let m : length before ≡ vec_len y.sets = sym c.copy_from_slice.new.self.ok.0 ∙ c.copy_from_slice.ensures.len ∙ y.same in
    let n : length sets ≡ vec_len y.sets = sym c.loop-link.sets.ok.0 ∙ c.loop-link.invariant.same in
    record {
      same = c.loop-link.invariant.same;
      added = added_link (over y) before sets k c.from.result c.add.new.self c.index_mut.result.now c.index.result.now
          (omega arith) (omega arith) (c.from.ensures ∙ sym f) c.add.ensures
          (get_or_read sets _ _ (omega arith) c.index_mut.ensures.value 0)
          (get_or_read before _ _ (omega arith) c.index.ensures 0 ∙ ap (λ (i : ℕ). get_or before i 0) (c.from-in-loop-link.ensures ∙ sym t))
          c.loop-link.invariant.added;
    }

pub returns-clause-more : goal.returns-clause-more
returns-clause-more c = λ j h.
    let y = c.args.self.now in
    let e : vec_items c.copy_from_slice.new.self ≡ vec_items y.sets = c.copy_from_slice.ensures.items ∙ c.deref.ensures.value in
    let n : length (vec_items c.copy_from_slice.new.self) ≡ vec_len y.sets = ap length e ∙ sym y.sets.ok.0 in
    let m : length (map (λ l. l.from) y.links.now) ≡ length y.links.now = length-map y.links.now (λ l. l.from) in
    let q : c.loop-link.link-index ≡ length y.links.now = omega arith in
    reached_more (over y) (vec_items c.copy_from_slice.new.self) (vec_items c.loop-link.sets) j y.linked.ends n y.linked.few
    (subst (λ (k : ℕ). Added (over y) (vec_items c.copy_from_slice.new.self) k (vec_items c.loop-link.sets)) (q ∙ sym m) c.loop-link.invariant.added)
    (subst (λ (xs : List ℕ). Reached (over y) j xs) (sym e) h)
