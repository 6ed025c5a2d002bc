-- Walks can be joined end to end and turned round, so that a switch which reaches all makes all joined. Assumes nothing.
use Rattle.std.proofs.Common.{◌≡◌, ℕ, zero, suc, ◌+◌, ◌-◌, ◌<◌, ◌≤◌, Bool, true, false, not, List, [], ◌∷◌, ◌++◌, get_or, Option, Some, None, MatchOption, IsSome, sym, refl, ◌∙◌, subst, ⊎_elim, arith}
use Rattle.std.proofs.lemmas.Bool.{cond_both, cases_lt, eq-eqb, eqb-true, both_ways, not-true, not-false}
use Rattle.std.specs.List.{range_with_len}
use Rattle.std.specs.Prelude.{find}
use Rattle.roads.specs.Numbers.{Least}
use Rattle.roads.specs.Roads.{Road, there, along}
use Rattle.roads.proofs.Below.{greatest_at, greatest_fits}
use Rattle.roads.proofs.Roads.{shortest_le, shortest_within, one_so_short}
use Rattle.roads.proofs.Soon.{shortest_soon}
use Rattle.graph.specs.Sets.{has}
use Rattle.graph.specs.Graph.{Graph, TwoWay, partner}
use Rattle.graph.specs.Tree.{plain, at, distance, reach, root, Joined, Lost}
use Rattle.graph.specs.Layers.{Finds, Reached, Linked}

-- what `find` gives
find_from : (p : ℕ → Bool) (a n : ℕ) → MatchOption (find p (range_with_len a n)) ((k : ℕ) → a ≤ k → k < a + n → p k ≡ false)
    (λ r. (a ≤ r) × (r < a + n) × (p r ≡ true) × ((k : ℕ) → a ≤ k → k < r → p k ≡ false))
find_from p a zero = λ k l m. absurd (omega arith)
find_from p a (suc n) = cond_both (p a) (Some a) (find p (range_with_len (a + 1) n))
    (λ v. MatchOption v ((k : ℕ) → a ≤ k → k < a + suc n → p k ≡ false) (λ r. (a ≤ r) × (r < a + suc n) × (p r ≡ true) × ((k : ℕ) → a ≤ k → k < r → p k ≡ false)))
    (λ e. (omega arith, omega arith, e, λ k l m. absurd (omega arith)))
    (λ e. go e (find p (range_with_len (a + 1) n)) (find_from p (a + 1) n))
  where
    at_or_after : p a ≡ false → (k : ℕ) → a ≤ k → (a + 1 ≤ k → p k ≡ false) → p k ≡ false
    at_or_after e k l h = ⊎_elim (λ (m : a < k). h (omega arith)) (λ m. let q : a ≡ k = omega arith in subst (λ (i : ℕ). p i ≡ false) q e) (cases_lt a k)

    go : p a ≡ false → (q : Option ℕ) → MatchOption q ((k : ℕ) → a + 1 ≤ k → k < a + 1 + n → p k ≡ false) (λ r. (a + 1 ≤ r) × (r < a + 1 + n) × (p r ≡ true) × ((k : ℕ) → a + 1 ≤ k → k < r → p k ≡ false)) →
        MatchOption q ((k : ℕ) → a ≤ k → k < a + suc n → p k ≡ false) (λ r. (a ≤ r) × (r < a + suc n) × (p r ≡ true) × ((k : ℕ) → a ≤ k → k < r → p k ≡ false))
    go e None f = λ k l m. at_or_after e k l (λ o. f k o (omega arith))
    go e (Some r) f = let x = f.0 in let y = f.1 in (omega arith, omega arith, f.2, λ k l m. at_or_after e k l (λ o. f.3 k o m))

find_least : (p : ℕ → Bool) (n : ℕ) → Finds p n (find p (range_with_len 0 n))
find_least p n = go (find p (range_with_len 0 n)) (find_from p 0 n)
  where
    go : (q : Option ℕ) → MatchOption q ((k : ℕ) → 0 ≤ k → k < 0 + n → p k ≡ false) (λ r. (0 ≤ r) × (r < 0 + n) × (p r ≡ true) × ((k : ℕ) → 0 ≤ k → k < r → p k ≡ false)) → Finds p n q
    go None f = record { fits = omega arith; passes = λ l. absurd (omega arith); none = λ k l. f k (omega arith) (omega arith) }
    go (Some r) f = let b = f.1 in (omega arith, record { fits = omega arith; passes = λ l. f.2; none = λ k l. f.3 k (omega arith) l })

module _ (g : Graph) where
  pub walk_on : (b c a : ℕ) (ks ls : List ℕ) → Road (plain g) (at b) a ks → Road (plain g) (at c) b ls → Road (plain g) (at c) a (ks ++ ls)
  walk_on b c a _ ls (there e) r = subst (λ (x : ℕ). Road (plain g) (at c) x ls) (sym (eqb-true a b e)) r
  walk_on b c a _ ls (along {k = k} {ks = ks} l e w) r = along l e (walk_on b c (g.to k) ks ls w r)

  module _ (two : TwoWay g) where
    pub turned : (b a : ℕ) (ks : List ℕ) → Road (plain g) (at b) a ks → (ls : List ℕ) × Road (plain g) (at a) b ls
    turned b a _ (there e) = ([], there (eq-eqb b a (sym (eqb-true a b e))))
    turned b a _ (along {k = k} {ks = ks} l e w) =
        let t = two k l in
        let r = turned b (g.to k) ks w in
        let last : Road (plain g) (at a) (g.to k) (partner k ∷ []) =
        along t.0 (eq-eqb (g.from (partner k)) (g.to k) t.1) (there (eq-eqb (g.to (partner k)) a (t.2 ∙ eqb-true (g.from k) a e))) in
        (r.0 ++ (partner k ∷ []), walk_on (g.to k) a b r.0 (partner k ∷ []) r.1 last)

    module _ (ends : (k : ℕ) → k < g.links → g.to k < g.n) where
      -- any walk tells of one of fewer than n cables
      pub near : (a b : ℕ) (ks : List ℕ) → a < g.n → Road (plain g) (at b) a ks → distance g a b < g.n
      near a b ks l r = shortest_soon (plain g) (at b) g.n (λ x k o. ends k o) a ks l r

      walk_of : (a b : ℕ) → distance g a b < g.n → (ks : List ℕ) × Road (plain g) (at b) a ks
      walk_of a b l = let r = one_so_short (plain g) (at b) g.n a l in (r.0, r.1)

      pub all_joined : (r : ℕ) → r < g.n → reach g r < g.n → Joined g
      all_joined r l h a b la lb =
          let p = greatest_at (λ t. distance g r t) g.n a la in
          let q = greatest_at (λ t. distance g r t) g.n b lb in
          let u = walk_of r a (omega arith) in
          let v = walk_of r b (omega arith) in
          let w = turned a r u.0 u.1 in
          near a b (w.0 ++ v.0) la (walk_on r b a w.0 v.0 w.1 v.1)

      -- the lowest switch that the set of switch 0 lacks when all layers are made
      pub lost_is : (sets : List ℕ) (s : ℕ) → 0 < g.n → g.n ≤ reach g 0 → Reached g (g.n - 1) sets → Least (λ k. not (has (get_or sets 0 0) k)) g.n s → Lost g s
      lost_is sets s some far h f = record { below = s<n; lost = no_road; lower = λ t l. close t (omega (arith, s<n)) (not-false (has (get_or sets 0 0) t) (f.none t l)) }
        where
          close : (t : ℕ) → t < g.n → has (get_or sets 0 0) t ≡ true → distance g 0 t < g.n
          close t l e = let a = shortest_le (plain g) (at t) g.n (g.n - 1) 0 (sym (h 0 t some l) ∙ e) in omega arith

          s<n : s < g.n
          s<n = ⊎_elim (λ (l : s < g.n). l)
              (λ l. absurd (let m = greatest_fits (λ t. distance g 0 t) g.n (g.n - 1) (λ t o. let d = close t o (not-false (has (get_or sets 0 0) t) (f.none t (omega arith))) in omega arith) in omega arith))
              (cases_lt s g.n)

          no_road : (ks : List ℕ) → Road (plain g) (at s) 0 ks → ⊥
          no_road ks r =
              let d = near 0 s ks some r in
              let w = shortest_within (plain g) (at s) g.n (g.n - 1) 0 d (omega arith) in
              both_ways (has (get_or sets 0 0) s) (not-true (has (get_or sets 0 0) s) (f.passes s<n)) (h 0 s some s<n ∙ w)

-- a switch that reaches all makes all joined
pub joins_by : (g : Graph) → Linked g → (r : ℕ) → r < g.n → (r ≡ root g) × (reach g r < g.n) → (r ≡ root g) × (r < g.n) × Joined g
joins_by g k r l h = (h.0, l, all_joined g k.two k.ends.to r l h.1)

module _ (g : Graph) (k : Linked g) (sets : List ℕ) (far : (s : ℕ) → s < g.n → g.n ≤ reach g s) (h : Reached g (g.n - 1) sets) where
  pub lost_from : (s : ℕ) → Least (λ i. not (has (get_or sets 0 0) i)) g.n s → Lost g s
  lost_from s f = lost_is g k.two k.ends.to sets s k.some (far 0 k.some) h f

  one_lost : Least (λ i. not (has (get_or sets 0 0) i)) g.n g.n → ⊥
  one_lost f = let a = (lost_from g.n f).below in omega arith

  pub lost_by : (r : Option ℕ) → r ≡ find (λ i. not (has (get_or sets 0 0) i)) (range_with_len 0 g.n) → IsSome r × ((s : ℕ) → r ≡ Some s → Lost g s)
  lost_by r e = go r (subst (Finds (λ i. not (has (get_or sets 0 0) i)) g.n) (sym e) (find_least (λ i. not (has (get_or sets 0 0) i)) g.n))
    where
      go : (q : Option ℕ) → Finds (λ i. not (has (get_or sets 0 0) i)) g.n q → IsSome q × ((s : ℕ) → q ≡ Some s → Lost g s)
      go None f = absurd (one_lost f)
      go (Some k) f = (refl, λ s d. let a : k ≡ s = cc in subst (Lost g) a (lost_from k f.1))
