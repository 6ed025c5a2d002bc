-- Laws of the least, some, every and greatest below a bound. Assumes nothing.
use Rattle.std.proofs.Common.{◌≡◌, ℕ, zero, suc, ◌<◌, ◌≤◌, max, Bool, true, false, cond, ◌||◌, ◌⊎◌, sym, refl, ap, subst, inl, inr, ⊎_elim, arith}
use Rattle.std.proofs.lemmas.Bool.{cond_both, cases_Bool, cases_lt, cases_eq, both_ways, or_cases, or_left, or_right, and_parts, and_from}
use Rattle.roads.specs.Numbers.{least, some, every, greatest, Least}
use Rattle.roads.specs.Laws.{LeastIsLeast}

least_step : (f : ℕ → Bool) (n r : ℕ) → Least (λ k. f (suc k)) n r → Least f (suc n) (cond (f 0) 0 (suc r))
least_step f n r h = cond_both (f 0) 0 (suc r) (λ v. Least f (suc n) v) yes₀ later
  where
    yes₀ : f 0 ≡ true → Least f (suc n) 0
    yes₀ e = record { fits = omega arith; passes = λ _. e; none = λ k l. absurd (omega arith) }

    later : f 0 ≡ false → Least f (suc n) (suc r)
    later e = record { fits = (let a = h.fits in omega arith); passes = λ l. h.passes (omega arith); none = below }
      where
        below : (k : ℕ) → k < suc r → f k ≡ false
        below zero l = e
        below (suc k) l = h.none k (omega arith)

pub least_law : (f : ℕ → Bool) (n : ℕ) → Least f n (least f n)
unfolding least
least_law f zero = record { fits = omega arith; passes = λ l. absurd (omega arith); none = λ k l. absurd (omega arith) }
least_law f (suc n) = least_step f n (least (λ k. f (suc k)) n) (least_law (λ k. f (suc k)) n)

-- two that are least are one
pub least_one : (f : ℕ → Bool) (n r s : ℕ) → Least f n r → Least f n s → r ≡ s
least_one f n r s h g = ⊎_elim low (λ a. ⊎_elim high (λ b. omega arith) (cases_lt s r)) (cases_lt r s)
  where
    low : r < s → r ≡ s
    low l = let a = g.fits in absurd (both_ways (f r) (g.none r l) (h.passes (omega arith)))

    high : s < r → r ≡ s
    high l = let a = h.fits in absurd (both_ways (f s) (h.none s l) (g.passes (omega arith)))

pub least_is : (f : ℕ → Bool) (n r : ℕ) → Least f n r → r ≡ least f n
least_is f n r h = least_one f n r (least f n) h (least_law f n)

-- the test at the least is true, where it is below the bound
pub least_passes : (f : ℕ → Bool) (n : ℕ) → least f n < n → f (least f n) ≡ true
least_passes f n l = (least_law f n).passes l

pub least_below : (f : ℕ → Bool) (n k : ℕ) → k < least f n → f k ≡ false
least_below f n k l = (least_law f n).none k l

-- what passes is not below the least
pub least_first : (f : ℕ → Bool) (n k : ℕ) → f k ≡ true → least f n ≤ k
least_first f n k e = ⊎_elim (λ (l : k < least f n). absurd (both_ways (f k) (least_below f n k l) e)) (λ l. l) (cases_lt k (least f n))

pub some_from : (f : ℕ → Bool) (n k : ℕ) → k < n → f k ≡ true → some f n ≡ true
unfolding some
some_from f zero k l e = absurd (omega arith)
some_from f (suc n) k l e = go (λ m. some_from f n k m e) (cases_eq k n)
  where
    go : (k < n → some f n ≡ true) → (k ≡ n) ⊎ (k ≡ n → ⊥) → (f n || some f n) ≡ true
    go r (inl q) = or_left (f n) (some f n) (subst (λ (i : ℕ). f i ≡ true) q e)
    go r (inr q) = or_right (f n) (some f n) (r (omega arith))

pub some_one : (f : ℕ → Bool) (n : ℕ) → some f n ≡ true → (k : ℕ) × (k < n) × (f k ≡ true)
unfolding some
some_one f zero e = absurd (both_ways false refl e)
some_one f (suc n) e = go (λ r. some_one f n r) (or_cases (f n) (some f n) e)
  where
    go : (some f n ≡ true → (k : ℕ) × (k < n) × (f k ≡ true)) → (f n ≡ true) ⊎ (some f n ≡ true) → (k : ℕ) × (k < suc n) × (f k ≡ true)
    go r (inl q) = (n, omega arith, q)
    go r (inr q) = let o = r q in let l = o.1 in (o.0, omega arith, o.2)

pub some_none : (f : ℕ → Bool) (n : ℕ) → some f n ≡ false → (k : ℕ) → k < n → f k ≡ false
some_none f n e k l = ⊎_elim (λ (t : f k ≡ true). absurd (both_ways (some f n) e (some_from f n k l t))) (λ t. t) (cases_Bool (f k))

pub every_at : (f : ℕ → Bool) (n : ℕ) → every f n ≡ true → (k : ℕ) → k < n → f k ≡ true
unfolding every
every_at f zero e k l = absurd (omega arith)
every_at f (suc n) e k l = go (and_parts (f n) (every f n) e) (λ r m. every_at f n r k m) (cases_eq k n)
  where
    go : (f n ≡ true) × (every f n ≡ true) → (every f n ≡ true → k < n → f k ≡ true) → (k ≡ n) ⊎ (k ≡ n → ⊥) → f k ≡ true
    go p r (inl q) = subst (λ (i : ℕ). f i ≡ true) (sym q) p.0
    go p r (inr q) = r p.1 (omega arith)

pub every_from : (f : ℕ → Bool) (n : ℕ) → ((k : ℕ) → k < n → f k ≡ true) → every f n ≡ true
unfolding every
every_from f zero h = refl
every_from f (suc n) h = and_from (f n) (every f n) (h n (omega arith)) (every_from f n (λ k l. h k (omega arith)))

-- one that fails
pub every_not : (f : ℕ → Bool) (n k : ℕ) → k < n → f k ≡ false → every f n ≡ false
every_not f n k l e = ⊎_elim (λ (t : every f n ≡ true). absurd (both_ways (f k) e (every_at f n t k l))) (λ t. t) (cases_Bool (every f n))

pub greatest_at : (f : ℕ → ℕ) (n k : ℕ) → k < n → f k ≤ greatest f n
unfolding greatest
greatest_at f zero k l = absurd (omega arith)
greatest_at f (suc n) k l = go (λ m. greatest_at f n k m) (cases_eq k n)
  where
    go : (k < n → f k ≤ greatest f n) → (k ≡ n) ⊎ (k ≡ n → ⊥) → f k ≤ max (f n) (greatest f n)
    go r (inl q) = let e : f k ≡ f n = ap f q in omega arith
    go r (inr q) = let a = r (omega arith) in omega arith

pub greatest_fits : (f : ℕ → ℕ) (n m : ℕ) → ((k : ℕ) → k < n → f k ≤ m) → greatest f n ≤ m
unfolding greatest
greatest_fits f zero m h = omega arith
greatest_fits f (suc n) m h = let a = greatest_fits f n m (λ k l. h k (omega arith)) in let b = h n (omega arith) in omega arith

pub least_is_least : LeastIsLeast
least_is_least = record { law = least_law; one = least_is }
