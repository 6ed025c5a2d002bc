-- One link more in a layer: what its sets hold. Assumes nothing.
use Rattle.std.proofs.Common.{◌≡◌, ℕ, ◌+◌, ◌<◌, Bool, true, false, ◌&&◌, ◌||◌, eqb, List, length, get_or, set, sym, refl, ap, ◌∙◌, subst, ⊎_elim, add-one, arith}
use lib.Bits.{bit_or}
use Rattle.std.proofs.lemmas.List.{get_or-set_same, get_or-set_other}
use Rattle.std.proofs.lemmas.Bool.{cases_eq, eq-eqb, ne_eqb}
use Rattle.roads.specs.Numbers.{some}
use Rattle.graph.specs.Sets.{has}
use Rattle.graph.specs.Graph.{Graph}
use Rattle.graph.specs.Layers.{Added}
use Rattle.graph.proofs.Bits.{has_or}

pub or_nothing : (a : Bool) → a ≡ (a || false)
or_nothing true = refl
or_nothing false = refl

-- a, then what stood before, then what is new
or_turn : (a b c : Bool) → ((a || b) || c) ≡ (a || (c || b))
or_turn true b c = refl
or_turn false true true = refl
or_turn false true false = refl
or_turn false false true = refl
or_turn false false false = refl

pub some_start : (f : ℕ → Bool) → some f 0 ≡ false
unfolding some
some_start f = refl

pub some_more : (f : ℕ → Bool) (n : ℕ) → some f (n + 1) ≡ (f n || some f n)
unfolding some
some_more f n = rw add-one refl

pub added_none : (g : Graph) (old : List ℕ) → Added g old 0 old
added_none g old s t l h =
    or_nothing (has (get_or old s 0) t) ∙ ap (λ (b : Bool). has (get_or old s 0) t || b) (sym (some_start (λ i. eqb (g.from i) s && has (get_or old (g.to i) 0) t)))

pub added_more : (g : Graph) (old sets : List ℕ) (k : ℕ) → length sets ≡ length old → g.from k < length old → Added g old k sets →
    Added g old (k + 1) (set sets (g.from k) (bit_or (get_or sets (g.from k) 0) (get_or old (g.to k) 0)))
added_more g old sets k n f h s t l w = ⊎_elim here other (cases_eq s (g.from k))
  where
    more : (has (get_or old s 0) t || some (λ i. eqb (g.from i) s && has (get_or old (g.to i) 0) t) (k + 1)) ≡
        (has (get_or old s 0) t || ((eqb (g.from k) s && has (get_or old (g.to k) 0) t) || some (λ i. eqb (g.from i) s && has (get_or old (g.to i) 0) t) k))
    more = ap (λ (b : Bool). has (get_or old s 0) t || b) (some_more (λ i. eqb (g.from i) s && has (get_or old (g.to i) 0) t) k)

    here : s ≡ g.from k → has (get_or (set sets (g.from k) (bit_or (get_or sets (g.from k) 0) (get_or old (g.to k) 0))) s 0) t ≡
        (has (get_or old s 0) t || some (λ i. eqb (g.from i) s && has (get_or old (g.to i) 0) t) (k + 1))
    here q =
        let v = bit_or (get_or sets (g.from k) 0) (get_or old (g.to k) 0) in
        let a : get_or (set sets (g.from k) v) s 0 ≡ v = subst (λ (i : ℕ). get_or (set sets (g.from k) v) i 0 ≡ v) (sym q) (get_or-set_same sets (g.from k) v 0 (omega arith)) in
        let b : has (get_or sets (g.from k) 0) t ≡ has (get_or sets s 0) t = ap (λ (i : ℕ). has (get_or sets i 0) t) (sym q) in
        let c : eqb (g.from k) s ≡ true = eq-eqb (g.from k) s (sym q) in
        let d : has (get_or old (g.to k) 0) t ≡ (eqb (g.from k) s && has (get_or old (g.to k) 0) t) = ap (λ (u : Bool). u && has (get_or old (g.to k) 0) t) (sym c) in
        ap (λ (u : ℕ). has u t) a ∙ has_or (get_or sets (g.from k) 0) (get_or old (g.to k) 0) t
        ∙ ap (λ (u : Bool). u || has (get_or old (g.to k) 0) t) (b ∙ h s t l w)
        ∙ ap (λ (u : Bool). (has (get_or old s 0) t || some (λ i. eqb (g.from i) s && has (get_or old (g.to i) 0) t) k) || u) d
        ∙ or_turn (has (get_or old s 0) t) (some (λ i. eqb (g.from i) s && has (get_or old (g.to i) 0) t) k) (eqb (g.from k) s && has (get_or old (g.to k) 0) t)
        ∙ sym more

    other : (s ≡ g.from k → ⊥) → has (get_or (set sets (g.from k) (bit_or (get_or sets (g.from k) 0) (get_or old (g.to k) 0))) s 0) t ≡
        (has (get_or old s 0) t || some (λ i. eqb (g.from i) s && has (get_or old (g.to i) 0) t) (k + 1))
    other q =
        let v = bit_or (get_or sets (g.from k) 0) (get_or old (g.to k) 0) in
        let c : eqb (g.from k) s ≡ false = ne_eqb (g.from k) s (λ e. q (sym e)) in
        let e : (eqb (g.from k) s && has (get_or old (g.to k) 0) t) ≡ false = ap (λ (u : Bool). u && has (get_or old (g.to k) 0) t) c in
        ap (λ (u : ℕ). has u t) (get_or-set_other sets (g.from k) s v 0 q) ∙ h s t l w
        ∙ ap (λ (u : Bool). has (get_or old s 0) t || (u || some (λ i. eqb (g.from i) s && has (get_or old (g.to i) 0) t) k)) (sym e)
        ∙ sym more

-- what the code writes for link k
pub added_link : (g : Graph) (old sets : List ℕ) (k i u v w : ℕ) → length sets ≡ length old → g.from k < length old →
    i ≡ g.from k → u ≡ bit_or v w → v ≡ get_or sets i 0 → w ≡ get_or old (g.to k) 0 → Added g old k sets → Added g old (k + 1) (set sets i u)
added_link g old sets k i u v w n f p o q r h =
    let a : u ≡ bit_or (get_or sets (g.from k) 0) (get_or old (g.to k) 0) = o ∙ ap (λ (x : ℕ). bit_or x w) (q ∙ ap (λ (x : ℕ). get_or sets x 0) p) ∙ ap (bit_or (get_or sets (g.from k) 0)) r in
    subst (λ (x : ℕ). Added g old (k + 1) (set sets x u)) (sym p) (subst (λ (x : ℕ). Added g old (k + 1) (set sets (g.from k) x)) (sym a) (added_more g old sets k n f h))
