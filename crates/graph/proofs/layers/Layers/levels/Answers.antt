use Rattle.std.proofs.Common.{◌≡◌, ℕ, suc, ◌+◌, cond, ◌++◌, List, length, get_or, take, drop, vec_items, vec_len, sym, ap, ◌∙◌, subst, arith}
use Rattle.std.proofs.lemmas.List.{take-append-le, take_all}
use Rattle.graph.specs.Graph.{Graph}
use Rattle.graph.specs.Sets.{has}
use Rattle.graph.specs.Layers.{Levelled}
use Rattle.graph.specs.Reach.{over}
use Rattle.graph.proofs.Rooted.{Counted, counted_more, counted_all}
use Rattle.graph.proofs.layers.Layers.levels.Goals as goal

pub loop-j-preserved : goal.loop-j-preserved
loop-j-preserved c =
    let y = c.loop-j.self in
    let new = c.count.new.levels in
    let old = vec_items c.loop-j.levels in
    let h = c.loop-j.invariant.counted in
    let z : length new ≡ length c.deref_mut.result.now = c.count.auto.levels in
    let v : c.loop-j.levels.len ≡ length old = c.loop-j.levels.ok.0 in
    let q = h.each_level in
    let e : take c.loop-j.levels.len (new ++ drop (length new) old) ≡ new = take-append-le c.loop-j.levels.len new (drop (length new) old) (omega arith) ∙ take_all c.loop-j.levels.len new (omega arith) in
    let m : suc c.loop-j._j ≡ c.loop-j._j + 1 = omega arith in
    let n : vec_len c.loop-j.self.sets ≡ vec_len c.args.self.sets = ap (λ (g : Graph). g.n) c.loop-j.invariant.same in
    let b = c.requires.below in
    let k : Counted (over y) c.args.root (suc c.loop-j._j) (vec_items c.layer.new.self.sets) new = record {
      each_level = omega arith;
      reached = c.layer.ensures.more c.loop-j._j h.reached;
      counted = counted_more (over y) c.args.root c.loop-j._j (vec_items y.sets) old (omega arith) h new
          (λ s l. c.count.ensures s l ∙ ap (λ (xs : List ℕ). get_or xs s 0 + cond (has (get_or (vec_items y.sets) s 0) c.args.root) 0 1) c.deref_mut.ensures.value);
    } in
    record {
      same = c.layer.ensures.same ∙ c.loop-j.invariant.same;
      counted = subst (λ (g : Graph). Counted g c.args.root (c.loop-j._j + 1) (vec_items c.layer.new.self.sets) (take c.loop-j.levels.len (new ++ drop (length new) old))) (sym c.layer.ensures.same)
          (subst (λ (ls : List ℕ). Counted (over y) c.args.root (c.loop-j._j + 1) (vec_items c.layer.new.self.sets) ls) (sym e)
          (subst (λ (j : ℕ). Counted (over y) c.args.root j (vec_items c.layer.new.self.sets) new) m k));
    }

pub returns : goal.returns
returns c =
    subst (λ (g : Graph). Levelled g c.args.root (vec_items c.loop-j.levels)) c.loop-j.invariant.same
    (counted_all (over c.loop-j.self) c.args.root c.loop-j._j (vec_items c.loop-j.self.sets) (vec_items c.loop-j.levels)
    (let n : vec_len c.loop-j.self.sets ≡ vec_len c.args.self.sets = ap (λ (g : Graph). g.n) c.loop-j.invariant.same in omega arith)
    c.loop-j.invariant.counted)
