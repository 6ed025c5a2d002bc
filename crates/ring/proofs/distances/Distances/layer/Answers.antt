-- One channel more of the layer, and the whole layer. Assumes nothing.
use Rattle.std.proofs.Common.{◌≡◌, ℕ, ◌+◌, ◌<◌, Bor, List, get_or, length, vec_items, sym, ap, subst, ◌∙◌, arith, below_more}
use Rattle.std.proofs.lemmas.Bool.{both_ways}
use Rattle.std.proofs.lemmas.List.{get_or_read}
use Rattle.ring.specs.declared.dependencies.Dependencies.{Dependencies}
use Rattle.ring.specs.declared.distances.Distances.{Distances}
use Rattle.ring.specs.Graph.{FeedsIn}
use Rattle.ring.specs.Layers.{Layer, Source, Spread}
use Rattle.ring.proofs.Marks.{layer_source, layer_spread, layer_pass, layer_all}
use Rattle.ring.proofs.distances.Distances.layer.Goals as goal
use Rattle.ring.proofs.distances.Distances.layer.Goals.{then-index-k, else-index-k}

pub spread-requires-clause-source : goal.spread-requires-clause-source
spread-requires-clause-source c =
    let i = c.loop-x.invariant in
    let s = c.loop-x.self in
    let n = ap (λ (g : Bor Dependencies). g.now.channels) i.graph in
    let in_a : c.loop-x.x < length (vec_items s.numbers) = omega (arith, s.numbers.ok.0, s.sized) in
    let at : c.index.result.now ≡ get_or (vec_items s.numbers) c.loop-x.x 0 = get_or_read (vec_items s.numbers) c.loop-x.x _ in_a c.index.ensures 0 in
    subst (λ (t : ℕ). Source (FeedsIn s.graph.now) t c.loop-x.x (c.args.k + 1)) (sym i.to)
    (subst (λ (g : Bor Dependencies). Source (FeedsIn g.now) c.args.self.now.to c.loop-x.x (c.args.k + 1)) (sym i.graph)
    (layer_source (FeedsIn c.args.self.now.graph.now) c.args.self.now.to c.args.k c.loop-x.x (vec_items s.numbers) c.requires.some (sym at ∙ c.if-index-k.true) i.layer.near))

pub loop-x-preserved : goal.loop-x-preserved
loop-x-preserved c =
    let i = c.loop-x.invariant in
    let s = c.loop-x.self in
    let a = vec_items s.numbers in
    let to = c.args.self.now.to in
    let x = c.loop-x.x in
    let k = c.args.k in
    let H : ℕ → ℕ → Type 0 = FeedsIn c.args.self.now.graph.now in
    let n = ap (λ (g : Bor Dependencies). g.now.channels) i.graph in
    let in_a : x < length a = omega (arith, s.numbers.ok.0, s.sized) in
    let at : c.index.result.now ≡ get_or a x 0 = get_or_read a x _ in_a c.index.ensures 0 in
    elim c.if-index-k.branch [
      | then-index-k w ↦ record {
        to = ap (λ (d : Distances). d.to) w.self-is ∙ (w.spread.ensures.same.0 ∙ i.to);
        graph = ap (λ (d : Distances). d.graph) w.self-is ∙ (w.spread.ensures.same.1 ∙ i.graph);
        layer = subst (λ (xs : List ℕ). Layer H to k (x + 1) xs) (sym (ap (λ (d : Distances). vec_items d.numbers) w.self-is))
            (layer_spread H to k x c.args.self.now.graph.now.channels a (vec_items w.spread.new.self.numbers) c.requires.some (λ z y h. h.0) i.layer
            (subst (λ (t : ℕ). Spread H t k x c.args.self.now.graph.now.channels a (vec_items w.spread.new.self.numbers)) i.to
            (subst (λ (g : Bor Dependencies). Spread (FeedsIn g.now) s.to k x g.now.channels a (vec_items w.spread.new.self.numbers)) i.graph w.spread.ensures.spread)));
        none = λ f. absurd (both_ways c.if-index-k.found f w.found-is);
      }
      | else-index-k w ↦ record {
        to = ap (λ (d : Distances). d.to) w.self-is ∙ i.to;
        graph = ap (λ (d : Distances). d.graph) w.self-is ∙ i.graph;
        layer = subst (λ (xs : List ℕ). Layer H to k (x + 1) xs) (sym (ap (λ (d : Distances). vec_items d.numbers) w.self-is))
            (layer_pass H to k x a (λ q. w.if-index-k.false (at ∙ q)) i.layer);
        none = λ f. subst (λ (xs : List ℕ). (z : ℕ) → z < x + 1 → get_or xs z 0 ≡ k → ⊥) (sym (ap (λ (d : Distances). vec_items d.numbers) w.self-is))
            (below_more (λ z. get_or a z 0 ≡ k → ⊥) x (i.none (sym w.found-is ∙ f)) (λ q. w.if-index-k.false (at ∙ q)));
      }
    ]

pub returns-clause-near : goal.returns-clause-near
returns-clause-near c =
    let i = c.loop-x.invariant in
    let H : ℕ → ℕ → Type 0 = FeedsIn c.args.self.now.graph.now in
    let e : c.loop-x.x ≡ c.args.self.now.graph.now.channels = omega arith in
    layer_all H c.args.self.now.to c.args.k c.args.self.now.graph.now.channels (vec_items c.loop-x.self.numbers) c.requires.some (λ z x h. h.1)
    (subst (λ (x : ℕ). Layer H c.args.self.now.to c.args.k x (vec_items c.loop-x.self.numbers)) e i.layer)
