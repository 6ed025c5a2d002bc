-- The first layer, one layer more, and what all layers find. Assumes nothing.
use Rattle.std.proofs.Common.{◌≡◌, ℕ, zero, suc, ◌+◌, ◌-◌, ◌<◌, ◌≤◌, Bool, true, false, cond, ◌||◌, eqb, ltb, ◌⊎◌, List, sym, refl, ap, ◌∙◌, subst, inl, inr, ⊎_elim, arith}
use Rattle.std.proofs.lemmas.Bool.{le-ltb, cases_Bool, cases_lt, cond-true, cond-false, both_ways, and_parts, and_from}
use Rattle.net.specs.declared.Entry.TheVariants.{Here, Link}
use Rattle.roads.specs.Roads.{within, shortest, first}
use Rattle.roads.proofs.Roads.{goes, within_layer, within_zero, within_cases, within_more, goes_within, goal_within, shortest_within}
use Rattle.graph.specs.Graph.{Graph}
use Rattle.graph.specs.Sets.{has}
use Rattle.graph.proofs.Adding.{some_start, or_nothing}
use Rattle.tree.specs.Legal.{legal, stands}
use Rattle.table.specs.declared.states.State.{State}
use Rattle.table.specs.Kept.{most, onward}
use Rattle.table.specs.Cells.{state_of, index_of, reached_at, before_at, cell_at, reached_by, Layer, Held, Found}
use Rattle.table.proofs.Follow.{here_at}
use Rattle.table.proofs.Layering.{index_state}

module _ (g : Graph) (up : ℕ → Bool) where
  reached_none : (p j : ℕ) (x : Bool × ℕ) → reached_by g up p j 0 x ≡ within (legal g up) (stands p) j x
  reached_none p j x = ap (λ (b : Bool). within (legal g up) (stands p) j x || b) (some_start (goes (legal g up) (stands p) j x)) ∙ sym (or_nothing (within (legal g up) (stands p) j x))

  pub reached_of : (j : ℕ) (ss : List State) → Layer g up j 0 ss → (i p : ℕ) → i < g.n + g.n → p < g.n → has (reached_at ss i) p ≡ within (legal g up) (stands p) j (state_of g.n i)
  reached_of j ss h i p l o = (h i l).reached p o ∙ reached_none p j (state_of g.n i)

  pub first_layer : (ss : List State) → g.n ≤ 64 → ((i t : ℕ) → i < g.n + g.n → t < 64 → has (reached_at ss i) t ≡ eqb (state_of g.n i).1 t) →
      ((i p : ℕ) → cell_at ss i p ≡ Here) → Layer g up 0 0 ss
  first_layer ss few s e i l = record {
    reached = λ p o. s i p l (omega arith) ∙ sym (within_zero (legal g up) (stands p) (state_of g.n i)) ∙ sym (reached_none p 0 (state_of g.n i));
    entry = λ p o. e i p ∙ sym (⊎_elim
        (λ (t : has (reached_at ss i) p ≡ true). cond-true (has (reached_at ss i) p) (onward g up p (state_of g.n i)) Here t ∙ here_at g up p (state_of g.n i) (sym (s i p l (omega arith)) ∙ t))
        (λ t. cond-false (has (reached_at ss i) p) (onward g up p (state_of g.n i)) Here t)
        (cases_Bool (has (reached_at ss i) p)));
  }

  pub next_layer : (j : ℕ) (ss : List State) → Layer g up j g.links ss → Layer g up (suc j) 0 ss
  next_layer j ss h i l = record {
    reached = λ p o. (h i l).reached p o ∙ sym (within_layer (legal g up) (stands p) j (state_of g.n i)) ∙ sym (reached_none p (suc j) (state_of g.n i));
    entry = (h i l).entry;
  }

  pub all_found : (j : ℕ) (ss : List State) → j ≡ g.n + g.n → Layer g up j 0 ss → Found g up ss
  all_found j ss q h i p l o = (h i l).entry p o ∙ ⊎_elim yes₁ not₁ (cases_Bool (has (reached_at ss i) p))
    where
      is : has (reached_at ss i) p ≡ within (legal g up) (stands p) j (state_of g.n i)
      is = reached_of j ss h i p l o

      yes₁ : has (reached_at ss i) p ≡ true → cond (has (reached_at ss i) p) (onward g up p (state_of g.n i)) Here ≡ onward g up p (state_of g.n i)
      yes₁ e = cond-true (has (reached_at ss i) p) (onward g up p (state_of g.n i)) Here e

      never : has (reached_at ss i) p ≡ false → onward g up p (state_of g.n i) ≡ Here
      never e =
          let w : within (legal g up) (stands p) j (state_of g.n i) ≡ false = sym is ∙ e in
          let a : stands p (state_of g.n i) ≡ false = ⊎_elim (λ (s : stands p (state_of g.n i) ≡ true). absurd (both_ways (within (legal g up) (stands p) j (state_of g.n i)) w (goal_within (legal g up) (stands p) j (state_of g.n i) s))) (λ s. s) (cases_Bool (stands p (state_of g.n i))) in
          let b : most g ≤ shortest (legal g up) (stands p) (most g) (state_of g.n i) = ⊎_elim (λ (s : shortest (legal g up) (stands p) (most g) (state_of g.n i) < most g). absurd (both_ways (within (legal g up) (stands p) j (state_of g.n i)) w (shortest_within (legal g up) (stands p) (most g) j (state_of g.n i) s (omega arith)))) (λ s. s) (cases_lt (shortest (legal g up) (stands p) (most g) (state_of g.n i)) (most g)) in
          cond-false (stands p (state_of g.n i)) Here (cond (ltb (shortest (legal g up) (stands p) (most g) (state_of g.n i)) (most g)) (Link (first (legal g up) (stands p) (most g) (state_of g.n i))) Here) a
          ∙ cond-false (ltb (shortest (legal g up) (stands p) (most g) (state_of g.n i)) (most g)) (Link (first (legal g up) (stands p) (most g) (state_of g.n i))) Here (le-ltb (shortest (legal g up) (stands p) (most g) (state_of g.n i)) (most g) b)

      not₁ : has (reached_at ss i) p ≡ false → cond (has (reached_at ss i) p) (onward g up p (state_of g.n i)) Here ≡ onward g up p (state_of g.n i)
      not₁ e = cond-false (has (reached_at ss i) p) (onward g up p (state_of g.n i)) Here e ∙ sym (never e)

module _ (g : Graph) (up : ℕ → Bool) (ends : (k : ℕ) → k < g.links → g.to k < g.n) where
  -- a layer that adds nothing to any state
  Quiet : ℕ → Type 0
  Quiet j = (p : ℕ) → p < g.n → (i : ℕ) → i < g.n + g.n → within (legal g up) (stands p) (suc j) (state_of g.n i) ≡ true → within (legal g up) (stands p) j (state_of g.n i) ≡ true

  -- then no later one does
  quiet_on : (j : ℕ) → Quiet j → (m : ℕ) → Quiet (m + j)
  unfolding Quiet
  quiet_on j h zero p lp i l e =
      let q : zero + j ≡ j = omega arith in
      subst (λ (v : ℕ). within (legal g up) (stands p) v (state_of g.n i) ≡ true) (sym q) (h p lp i l (subst (λ (v : ℕ). within (legal g up) (stands p) (suc v) (state_of g.n i) ≡ true) q e))
  quiet_on j h (suc m) p lp i l e =
      subst (λ (v : ℕ). within (legal g up) (stands p) v (state_of g.n i) ≡ true) (sym q)
      (go (λ k o t. quiet_on j h m p lp k o t)
      (within_cases (legal g up) (stands p) (suc (m + j)) (state_of g.n i) (subst (λ (v : ℕ). within (legal g up) (stands p) (suc v) (state_of g.n i) ≡ true) q e)))
    where
      q : suc m + j ≡ suc (m + j)
      q = omega arith

      go : ((k : ℕ) → k < g.n + g.n → within (legal g up) (stands p) (suc (m + j)) (state_of g.n k) ≡ true → within (legal g up) (stands p) (m + j) (state_of g.n k) ≡ true) →
          (stands p (state_of g.n i) ≡ true) ⊎ ((k : ℕ) × (k < g.links) × (goes (legal g up) (stands p) (suc (m + j)) (state_of g.n i) k ≡ true)) →
          within (legal g up) (stands p) (suc (m + j)) (state_of g.n i) ≡ true
      go f (inl s) = goal_within (legal g up) (stands p) (suc (m + j)) (state_of g.n i) s
      go f (inr (k, o, t)) =
          let y = and_parts ((legal g up).may (state_of g.n i) k) (within (legal g up) (stands p) (suc (m + j)) (up k, g.to k)) t in
          let z = index_state g.n (up k) (g.to k) (ends k o) in
          let w : within (legal g up) (stands p) (m + j) (up k, g.to k) ≡ true =
          subst (λ (x : Bool × ℕ). within (legal g up) (stands p) (m + j) x ≡ true) z
          (f (index_of g.n (up k) (g.to k)) (index_small (up k) (g.to k) (ends k o)) (subst (λ (x : Bool × ℕ). within (legal g up) (stands p) (suc (m + j)) x ≡ true) (sym z) y.1)) in
          goes_within (legal g up) (stands p) (m + j) (state_of g.n i) k o (and_from ((legal g up).may (state_of g.n i) k) (within (legal g up) (stands p) (m + j) (up k, g.to k)) y.0 w)
        where
          index_small : (b : Bool) (s : ℕ) → s < g.n → index_of g.n b s < g.n + g.n
          index_small true s h = omega arith
          index_small false s h = omega arith

  quiet_all : (j : ℕ) → Quiet j → (m p : ℕ) → p < g.n → (i : ℕ) → i < g.n + g.n → within (legal g up) (stands p) (m + j) (state_of g.n i) ≡ true → within (legal g up) (stands p) j (state_of g.n i) ≡ true
  unfolding Quiet
  quiet_all j h zero p lp i l e = subst (λ (v : ℕ). within (legal g up) (stands p) v (state_of g.n i) ≡ true) (let q : zero + j ≡ j = omega arith in q) e
  quiet_all j h (suc m) p lp i l e =
      quiet_all j h m p lp i l (quiet_on j h m p lp i l (subst (λ (v : ℕ). within (legal g up) (stands p) v (state_of g.n i) ≡ true) (let q : suc m + j ≡ suc (m + j) = omega arith in q) e))

  -- a layer that left the sets as they were was the last
  pub still_found : (j : ℕ) (ss : List State) → ((i : ℕ) → before_at ss i ≡ reached_at ss i) → j < g.n + g.n → Held g up j ss → Layer g up (suc j) 0 ss → Found g up ss
  unfolding Quiet
  still_found j ss q lj a b = all_found g up (g.n + g.n) ss refl last
    where
      before : (i p : ℕ) → i < g.n + g.n → p < g.n → has (reached_at ss i) p ≡ within (legal g up) (stands p) j (state_of g.n i)
      before i p l o = ap (λ (v : ℕ). has v p) (sym (q i)) ∙ a i p l o

      later : (i p : ℕ) → i < g.n + g.n → p < g.n → has (reached_at ss i) p ≡ within (legal g up) (stands p) (suc j) (state_of g.n i)
      later i p l o = reached_of g up (suc j) ss b i p l o

      quiet : (p : ℕ) → p < g.n → (i : ℕ) → i < g.n + g.n → within (legal g up) (stands p) (suc j) (state_of g.n i) ≡ true → within (legal g up) (stands p) j (state_of g.n i) ≡ true
      quiet p o i l e = sym (before i p l o) ∙ later i p l o ∙ e

      level_off : (i p : ℕ) → i < g.n + g.n → p < g.n → within (legal g up) (stands p) (suc j) (state_of g.n i) ≡ within (legal g up) (stands p) (g.n + g.n) (state_of g.n i)
      level_off i p l o = ⊎_elim
          (λ (e : within (legal g up) (stands p) (suc j) (state_of g.n i) ≡ true). e ∙ sym (within_more (legal g up) (stands p) (suc j) (g.n + g.n) (state_of g.n i) lj e))
          (λ e. e ∙ sym (⊎_elim
          (λ (t : within (legal g up) (stands p) (g.n + g.n) (state_of g.n i) ≡ true). absurd (both_ways (within (legal g up) (stands p) (suc j) (state_of g.n i)) e
          (within_more (legal g up) (stands p) j (suc j) (state_of g.n i) (omega arith)
          (quiet_all j quiet ((g.n + g.n) - j) p o i l (subst (λ (v : ℕ). within (legal g up) (stands p) v (state_of g.n i) ≡ true) (let z : g.n + g.n ≡ ((g.n + g.n) - j) + j = omega arith in z) t)))))
          (λ t. t) (cases_Bool (within (legal g up) (stands p) (g.n + g.n) (state_of g.n i)))))
          (cases_Bool (within (legal g up) (stands p) (suc j) (state_of g.n i)))

      last : Layer g up (g.n + g.n) 0 ss
      last i l = record {
        reached = λ p o. later i p l o ∙ level_off i p l o ∙ sym (reached_none g up p (g.n + g.n) (state_of g.n i));
        entry = (b i l).entry;
      }
