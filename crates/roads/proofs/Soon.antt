-- Where there are only n states, a road to the goal needs fewer than n links: each layer adds a state, or none ever does again. Assumes nothing.
use Rattle.std.proofs.Common.{◌≡◌, ℕ, zero, suc, ◌+◌, ◌<◌, ◌≤◌, Bool, true, false, cond, ◌⊎◌, List, length, sym, ◌∙◌, subst, inl, inr, ⊎_elim, arith}
use Rattle.std.proofs.lemmas.Bool.{cond-true, cond-false, cond_both, cases_Bool, cases_eq, both_ways, and_parts, and_from}
use Rattle.roads.specs.Roads.{Moves, Road, there, along, within, shortest}
use Rattle.roads.proofs.Roads.{goes, goal_within, goes_within, within_cases, within_more, within_zero, road_within, shortest_le}

-- how many numbers below n pass f
tally : (ℕ → Bool) → ℕ → ℕ
tally f zero = 0
tally f (suc n) = cond (f n) 1 0 + tally f n

tally_fits : (f : ℕ → Bool) (n : ℕ) → tally f n ≤ n
unfolding tally
tally_fits f zero = omega arith
tally_fits f (suc n) =
    let a = tally_fits f n in
    cond_both {A = ℕ} (f n) 1 0 (λ v. v + tally f n ≤ suc n) (λ _. omega arith) (λ _. omega arith)

tally_one : (f : ℕ → Bool) (n k : ℕ) → k < n → f k ≡ true → 1 ≤ tally f n
unfolding tally
tally_one f zero k l e = absurd (omega arith)
tally_one f (suc n) k l e = go (λ m. tally_one f n k m e) (cases_eq k n)
  where
    go : (k < n → 1 ≤ tally f n) → (k ≡ n) ⊎ (k ≡ n → ⊥) → 1 ≤ cond (f n) 1 0 + tally f n
    go r (inl q) = let c = cond-true {A = ℕ} (f n) 1 0 (subst (λ (i : ℕ). f i ≡ true) q e) in omega arith
    go r (inr q) = let a = r (omega arith) in omega arith

-- a weaker test passes as many, and one more where it differs
tally_le : (f g : ℕ → Bool) (n : ℕ) → ((k : ℕ) → k < n → f k ≡ true → g k ≡ true) → tally f n ≤ tally g n
unfolding tally
tally_le f g zero h = omega arith
tally_le f g (suc n) h =
    let a = tally_le f g n (λ k l. h k (omega arith)) in
    cond_both {A = ℕ} (f n) 1 0 (λ v. v + tally f n ≤ cond (g n) 1 0 + tally g n)
    (λ e. let c = cond-true {A = ℕ} (g n) 1 0 (h n (omega arith) e) in omega arith) (λ _. omega arith)

tally_lt : (f g : ℕ → Bool) (n k : ℕ) → ((i : ℕ) → i < n → f i ≡ true → g i ≡ true) → k < n → f k ≡ false → g k ≡ true → tally f n < tally g n
unfolding tally
tally_lt f g zero k h l e t = absurd (omega arith)
tally_lt f g (suc n) k h l e t = go (λ m. tally_lt f g n k (λ i o. h i (omega arith)) m e t) (cases_eq k n)
  where
    more : tally f n ≤ tally g n
    more = tally_le f g n (λ i o. h i (omega arith))

    go : (k < n → tally f n < tally g n) → (k ≡ n) ⊎ (k ≡ n → ⊥) → cond (f n) 1 0 + tally f n < cond (g n) 1 0 + tally g n
    go r (inl q) =
        let a = cond-false {A = ℕ} (f n) 1 0 (subst (λ (i : ℕ). f i ≡ false) q e) in
        let b = cond-true {A = ℕ} (g n) 1 0 (subst (λ (i : ℕ). g i ≡ true) q t) in
        omega (arith, more)
    go r (inr q) =
        let a = r (omega arith) in
        cond_both {A = ℕ} (f n) 1 0 (λ v. v + tally f n < cond (g n) 1 0 + tally g n)
        (λ s. let c = cond-true {A = ℕ} (g n) 1 0 (h n (omega arith) s) in omega arith) (λ _. omega arith)

module _ (m : Moves ℕ) (goal : ℕ → Bool) (n : ℕ) (closed : (x k : ℕ) → k < m.links → m.after x k < n) where
  -- the states within j + 1 are already within j
  Still : ℕ → Type 0
  Still j = (x : ℕ) → x < n → within m goal (suc j) x ≡ true → within m goal j x ≡ true

  abbrev size : ℕ → ℕ
  size j = tally (within m goal j) n

  grows_or_still : (j : ℕ) → (Still j) ⊎ (size j < size (suc j))
  unfolding Still
  grows_or_still j = walk n (omega arith)
    where
      up : (x : ℕ) → x < n → within m goal j x ≡ true → within m goal (suc j) x ≡ true
      up x l e = within_more m goal j (suc j) x (omega arith) e

      walk : (i : ℕ) → i ≤ n → ((x : ℕ) → x < i → within m goal (suc j) x ≡ true → within m goal j x ≡ true) ⊎ (size j < size (suc j))
      walk zero l = inl (λ x o _. absurd (omega arith))
      walk (suc i) l = ⊎_elim one (λ g. inr g) (walk i (omega arith))
        where
          one : ((x : ℕ) → x < i → within m goal (suc j) x ≡ true → within m goal j x ≡ true) →
              ((x : ℕ) → x < suc i → within m goal (suc j) x ≡ true → within m goal j x ≡ true) ⊎ (size j < size (suc j))
          one h = ⊎_elim
              (λ (o : within m goal j i ≡ true). inl (λ x k e. ⊎_elim (λ (q : x ≡ i). subst (λ (y : ℕ). within m goal j y ≡ true) (sym q) o) (λ q. h x (omega arith) e) (cases_eq x i)))
              (λ o. ⊎_elim
              (λ (p : within m goal (suc j) i ≡ true). inr (tally_lt (within m goal j) (within m goal (suc j)) n i up (omega arith) o p))
              (λ p. inl (λ x k e. ⊎_elim (λ (q : x ≡ i). absurd (both_ways (within m goal (suc j) x) (subst (λ (y : ℕ). within m goal (suc j) y ≡ false) (sym q) p) e)) (λ q. h x (omega arith) e) (cases_eq x i)))
              (cases_Bool (within m goal (suc j) i)))
              (cases_Bool (within m goal j i))

  -- what adds nothing once never adds anything
  still_on : (j : ℕ) → Still j → (i x : ℕ) → x < n → within m goal (i + j) x ≡ true → within m goal j x ≡ true
  unfolding Still
  still_on j s zero x l e = subst (λ (v : ℕ). within m goal v x ≡ true) (let q : zero + j ≡ j = omega arith in q) e
  still_on j s (suc i) x l e = go (λ y o t. still_on j s i y o t)
      (within_cases m goal (i + j) x (subst (λ (v : ℕ). within m goal v x ≡ true) (let q : suc i + j ≡ suc (i + j) = omega arith in q) e))
    where
      go : ((y : ℕ) → y < n → within m goal (i + j) y ≡ true → within m goal j y ≡ true) →
          (goal x ≡ true) ⊎ ((k : ℕ) × (k < m.links) × (goes m goal (i + j) x k ≡ true)) → within m goal j x ≡ true
      go f (inl g) = goal_within m goal j x g
      go f (inr (k, o, g)) =
          let p = and_parts (m.may x k) (within m goal (i + j) (m.after x k)) g in
          s x l (goes_within m goal j x k o (and_from (m.may x k) (within m goal j (m.after x k)) p.0 (f (m.after x k) (closed x k o) p.1)))

  -- by the layer j some layer was still, or there are more than j states in it
  by : (j : ℕ) → ((i : ℕ) × (i < j) × Still i) ⊎ (j + size 0 ≤ size j)
  by zero = inr (omega arith)
  by (suc j) = ⊎_elim
      (λ (s : (i : ℕ) × (i < j) × Still i). let o = s.1 in inl (s.0, omega arith, s.2))
      (λ h. ⊎_elim (λ (s : Still j). inl (j, omega arith, s)) (λ g. inr (omega arith)) (grows_or_still j))
      (by j)

  end_state : (x : ℕ) (ks : List ℕ) → x < n → Road m goal x ks → (y : ℕ) × (y < n) × (goal y ≡ true)
  end_state x _ l (there e) = (x, l, e)
  end_state x _ l (along {k = k} {ks = ks} o e r) = end_state (m.after x k) ks (closed x k o) r

  -- any road tells of one of fewer than n links
  pub soon : (x : ℕ) (ks : List ℕ) → x < n → Road m goal x ks → (j : ℕ) × (j < n) × (within m goal j x ≡ true)
  soon x ks l r = ⊎_elim early (λ h. absurd (omega (arith, h, one, tally_fits (within m goal n) n))) (by n)
    where
      one : 1 ≤ size 0
      one = let e = end_state x ks l r in tally_one (within m goal 0) n e.0 e.1 (within_zero m goal e.0 ∙ e.2)

      early : (i : ℕ) × (i < n) × Still i → (j : ℕ) × (j < n) × (within m goal j x ≡ true)
      early (i, o, s) = (i, o, still_on i s (length ks) x l (road_within m goal (length ks + i) x ks r (omega arith)))

  pub shortest_soon : (x : ℕ) (ks : List ℕ) → x < n → Road m goal x ks → shortest m goal n x < n
  shortest_soon x ks l r = let s = soon x ks l r in let a = s.1 in let b = shortest_le m goal n s.0 x s.2 in omega arith
