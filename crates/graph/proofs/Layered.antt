-- The code's layers are those of the definition. Assumes nothing.
use Rattle.std.proofs.Common.{◌≡◌, ℕ, zero, suc, ◌^◌, ◌<◌, ◌≤◌, Bool, ◌&&◌, ◌||◌, eqb, List, length, get_or, map, sym, refl, ap, ◌∙◌, arith}
use Rattle.std.specs.List.{range_with_len}
use Rattle.std.proofs.lemmas.List.FromFn.{get_or-map-range_with_len}
use Rattle.roads.specs.Numbers.{some}
use Rattle.roads.specs.Roads.{within}
use Rattle.roads.proofs.Roads.{within_layer, within_zero}
use Rattle.graph.specs.Sets.{has}
use Rattle.graph.specs.Graph.{Graph, Ends}
use Rattle.graph.specs.Tree.{plain, at}
use Rattle.graph.specs.Layers.{Reached, Added}
use Rattle.graph.proofs.Bits.{has_one}

pub some_same : (f g : ℕ → Bool) (n : ℕ) → ((k : ℕ) → k < n → f k ≡ g k) → some f n ≡ some g n
unfolding some
some_same f g zero h = refl
some_same f g (suc n) h =
    ap (λ (b : Bool). b || some f n) (h n (omega arith)) ∙ ap (λ (b : Bool). g n || b) (some_same f g n (λ k l. h k (omega arith)))

pub reached_more : (g : Graph) (old sets : List ℕ) (j : ℕ) → Ends g → length old ≡ g.n → g.n ≤ 64 → Added g old g.links sets →
    Reached g j old → Reached g (suc j) sets
reached_more g old sets j e q few a h s t l w =
    a s t (omega arith) (omega arith)
    ∙ ap (λ (b : Bool). b || some (λ i. eqb (g.from i) s && has (get_or old (g.to i) 0) t) g.links) (h s t l w)
    ∙ ap (λ (b : Bool). within (plain g) (at t) j s || b)
    (some_same (λ i. eqb (g.from i) s && has (get_or old (g.to i) 0) t) (λ i. eqb (g.from i) s && within (plain g) (at t) j (g.to i)) g.links
    (λ i o. ap (λ (b : Bool). eqb (g.from i) s && b) (h (g.to i) t (e.to i o) w)))
    ∙ sym (within_layer (plain g) (at t) j s)

-- sets of one switch each
pub reached_none : (g : Graph) (sets : List ℕ) → sets ≡ map (λ s. 2 ^ s) (range_with_len 0 g.n) → Reached g 0 sets
reached_none g sets e s t l w =
    let a : get_or sets s 0 ≡ 2 ^ s = ap (λ (xs : List ℕ). get_or xs s 0) e ∙ get_or-map-range_with_len (λ (i : ℕ). 2 ^ i) 0 g.n s s 0 l (omega arith) in
    ap (λ (v : ℕ). has v t) a ∙ has_one s t ∙ sym (within_zero (plain g) (at t) s)
