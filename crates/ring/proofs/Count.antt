-- Different numbers below n are at most n. Assumes nothing.
use Rattle.std.proofs.Common.{◌≡◌, ℕ, zero, suc, ◌+◌, ◌<◌, ◌≤◌, cond, ltb, ◌⊎◌, List, [], ◌∷◌, length, sym, subst, inl, inr, arith}
use Rattle.std.specs.List.{AllByRecursion}
use Rattle.std.proofs.lemmas.Bool.{cases_eq, cond-true, lt-ltb}
use Rattle.std.proofs.lemmas.Bool.Decides.{nat_tests}
use Rattle.ring.specs.Ring.{Differ}

-- how many are below n
abbrev below : ℕ → List ℕ → ℕ
below n [] = 0
below n (x ∷ xs) = cond (ltb x n) 1 0 + below n xs

one_less : (x n : ℕ) → (n ≡ x → ⊥) → cond (ltb x (suc n)) 1 0 ≤ cond (ltb x n) 1 0
one_less x n d = grind (arith, nat_tests)

one_most : (x n : ℕ) → cond (ltb x n) 1 0 ≤ 1
one_most x n = grind (arith, nat_tests)

below_same : (n : ℕ) (xs : List ℕ) → AllByRecursion (λ e. n ≡ e → ⊥) xs → below (suc n) xs ≤ below n xs
below_same n [] a = omega arith
below_same n (x ∷ xs) a =
    let h = below_same n xs a.1 in
    let k = one_less x n a.0 in
    omega arith

below_more : (n : ℕ) (xs : List ℕ) → Differ xs → below (suc n) xs ≤ suc (below n xs)
below_more n [] d = omega arith
below_more n (x ∷ xs) d = go (cases_eq n x) (below_more n xs d.1)
  where
    go : (n ≡ x) ⊎ (n ≡ x → ⊥) → below (suc n) xs ≤ suc (below n xs) → below (suc n) (x ∷ xs) ≤ suc (below n (x ∷ xs))
    go (inl q) h =
        let s : below (suc n) xs ≤ below n xs = below_same n xs (subst (λ (v : ℕ). AllByRecursion (λ e. v ≡ e → ⊥) xs) (sym q) d.0) in
        let o = one_most x (suc n) in
        omega arith
    go (inr e) h = let o = one_less x n e in omega arith

below_none : (xs : List ℕ) → below 0 xs ≤ 0
below_none [] = omega arith
below_none (x ∷ xs) =
    let h = below_none xs in
    let o : cond (ltb x 0) 1 0 ≤ 0 = grind (arith, nat_tests) in
    omega arith

below_most : (n : ℕ) (xs : List ℕ) → Differ xs → below n xs ≤ n
below_most zero xs d = below_none xs
below_most (suc n) xs d =
    let h = below_more n xs d in
    let k = below_most n xs d in
    omega arith

below_all : (n : ℕ) (xs : List ℕ) → AllByRecursion (λ e. e < n) xs → length xs ≤ below n xs
below_all n [] a = omega arith
below_all n (x ∷ xs) a =
    let h = below_all n xs a.1 in
    let o : ◌≡◌ {A = ℕ} (cond (ltb x n) 1 0) 1 = cond-true (ltb x n) 1 0 (lt-ltb x n a.0) in
    omega arith

pub few : (n : ℕ) (xs : List ℕ) → Differ xs → AllByRecursion (λ e. e < n) xs → length xs ≤ n
few n xs d a =
    let h = below_most n xs d in
    let k = below_all n xs a in
    omega arith
