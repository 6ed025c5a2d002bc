-- Along legal roads ranks rise. Assumes nothing.
use Rattle.std.proofs.Common.{◌≡◌, ℕ, suc, ◌+◌, ◌-◌, ◌*◌, ◌<◌, ◌≤◌, Bool, true, false, not, ◌&&◌, ◌||◌, eqb, ltb, sym, ap, ⊎_elim, mul-le-mul_right, arith}
use Rattle.std.proofs.lemmas.Bool.{eqb-true, eqb-false, ltb-true, ltb-false, cases_Bool, cases_lt, or_cases, or_parts, and_parts, and_cases, cond-true, cond-false, not-true, both_ways}
use Rattle.graph.specs.Graph.{Graph}
use Rattle.graph.specs.Tree.{level}
use Rattle.tree.specs.Legal.{above, goes_up, number, rank_of}
use Rattle.tree.specs.Laws.{RanksRise}

-- a lower level has a lower number, whatever the switches
low_number : (n l m a b : ℕ) → l < m → a < n → l * n + a < m * n + b
low_number n l m a b h o = let p : suc l * n ≤ m * n = mul-le-mul_right n h in omega arith

module _ (g : Graph) (lv : ℕ → ℕ) where
  -- above is to have a lower number
  pub above_number : (a b : ℕ) → a < g.n → above lv a b ≡ true → number g lv a < number g lv b
  above_number a b l e = ⊎_elim lower equal (or_cases (ltb (lv a) (lv b)) (eqb (lv a) (lv b) && ltb a b) e)
    where
      lower : ltb (lv a) (lv b) ≡ true → number g lv a < number g lv b
      lower h = low_number g.n (lv a) (lv b) a b (ltb-true (lv a) (lv b) h) l

      equal : (eqb (lv a) (lv b) && ltb a b) ≡ true → number g lv a < number g lv b
      equal h =
          let p = and_parts (eqb (lv a) (lv b)) (ltb a b) h in
          let q : lv a * g.n ≡ lv b * g.n = ap (λ (v : ℕ). v * g.n) (eqb-true (lv a) (lv b) p.0) in
          let o = ltb-true a b p.1 in
          omega arith

  pub not_above_number : (a b : ℕ) → b < g.n → (a ≡ b → ⊥) → above lv a b ≡ false → number g lv b < number g lv a
  not_above_number a b l d e = ⊎_elim lower (λ h. equal h) (cases_lt (lv b) (lv a))
    where
      p : (ltb (lv a) (lv b) ≡ false) × ((eqb (lv a) (lv b) && ltb a b) ≡ false)
      p = or_parts (ltb (lv a) (lv b)) (eqb (lv a) (lv b) && ltb a b) e

      lower : lv b < lv a → number g lv b < number g lv a
      lower h = low_number g.n (lv b) (lv a) b a h l

      equal : lv a ≤ lv b → number g lv b < number g lv a
      equal h =
          let i = ltb-false (lv a) (lv b) p.0 in
          let q : lv a ≡ lv b = omega arith in
          let r : lv a * g.n ≡ lv b * g.n = ap (λ (v : ℕ). v * g.n) q in
          ⊎_elim (λ (x : eqb (lv a) (lv b) ≡ false). absurd (eqb-false (lv a) (lv b) x q))
          (λ x. let y = ltb-false a b x in omega arith)
          (and_cases (eqb (lv a) (lv b)) (ltb a b) p.1)

  -- a number is below n × n, where levels are below n
  pub number_small : (s : ℕ) → s < g.n → lv s < g.n → number g lv s < g.n * g.n
  number_small s l h = let p : suc (lv s) * g.n ≤ g.n * g.n = mul-le-mul_right g.n h in omega arith

pub ranks_rise : RanksRise
ranks_rise g z r lr k lk = (positive, λ d ld m. ⊎_elim (λ u. ⊎_elim (λ v. up_up d ld m u v) (λ v. up_down d u v) (cases_Bool (up k))) (λ u. ⊎_elim (λ v. down_up d m u v) (λ v. down_down d ld m u v) (cases_Bool (up k))) (cases_Bool (up d)))
  where
    up : ℕ → Bool
    up = goes_up g (level g r)

    small : (s : ℕ) → s < g.n → number g (level g r) s < g.n * g.n
    small s l = number_small g (level g r) s l (z.joined s r l lr)

    when_up : (i : ℕ) → goes_up g (level g r) i ≡ true → rank_of g (level g r) (goes_up g (level g r)) i ≡ (g.n * g.n + g.n) - number g (level g r) (g.to i)
    when_up i e = cond-true (goes_up g (level g r) i) ((g.n * g.n + g.n) - number g (level g r) (g.to i)) (g.n * g.n + g.n + 1 + number g (level g r) (g.to i)) e

    when_down : (i : ℕ) → goes_up g (level g r) i ≡ false → rank_of g (level g r) (goes_up g (level g r)) i ≡ g.n * g.n + g.n + 1 + number g (level g r) (g.to i)
    when_down i e = cond-false (goes_up g (level g r) i) ((g.n * g.n + g.n) - number g (level g r) (g.to i)) (g.n * g.n + g.n + 1 + number g (level g r) (g.to i)) e

    meets : (d : ℕ) → (eqb (g.from k) (g.to d) && (goes_up g (level g r) d || not (goes_up g (level g r) k))) ≡ true → number g (level g r) (g.from k) ≡ number g (level g r) (g.to d)
    meets d m = ap (λ (s : ℕ). number g (level g r) s) (eqb-true (g.from k) (g.to d) (and_parts (eqb (g.from k) (g.to d)) (goes_up g (level g r) d || not (goes_up g (level g r) k)) m).0)

    positive : 0 < rank_of g (level g r) (goes_up g (level g r)) k
    positive = ⊎_elim
        (λ (e : goes_up g (level g r) k ≡ true). let w = when_up k e in let s = small (g.to k) (z.to k lk) in omega arith)
        (λ e. let w = when_down k e in omega arith)
        (cases_Bool (goes_up g (level g r) k))

    up_up : (d : ℕ) → d < g.links → (eqb (g.from k) (g.to d) && (goes_up g (level g r) d || not (goes_up g (level g r) k))) ≡ true →
        goes_up g (level g r) d ≡ true → goes_up g (level g r) k ≡ true → rank_of g (level g r) (goes_up g (level g r)) d < rank_of g (level g r) (goes_up g (level g r)) k
    up_up d ld m u v =
        let a = when_up d u in
        let b = when_up k v in
        let c = above_number g (level g r) (g.to k) (g.from k) (z.to k lk) v in
        let e = meets d m in
        let s = small (g.to d) (z.to d ld) in
        omega arith

    up_down : (d : ℕ) → goes_up g (level g r) d ≡ true → goes_up g (level g r) k ≡ false → rank_of g (level g r) (goes_up g (level g r)) d < rank_of g (level g r) (goes_up g (level g r)) k
    up_down d u v = let a = when_up d u in let b = when_down k v in omega arith

    down_up : (d : ℕ) → (eqb (g.from k) (g.to d) && (goes_up g (level g r) d || not (goes_up g (level g r) k))) ≡ true →
        goes_up g (level g r) d ≡ false → goes_up g (level g r) k ≡ true → rank_of g (level g r) (goes_up g (level g r)) d < rank_of g (level g r) (goes_up g (level g r)) k
    down_up d m u v =
        let p = (and_parts (eqb (g.from k) (g.to d)) (goes_up g (level g r) d || not (goes_up g (level g r) k)) m).1 in
        absurd (⊎_elim (λ (q : goes_up g (level g r) d ≡ true). both_ways (goes_up g (level g r) d) u q)
        (λ q. both_ways (goes_up g (level g r) k) (not-true (goes_up g (level g r) k) q) v)
        (or_cases (goes_up g (level g r) d) (not (goes_up g (level g r) k)) p))

    down_down : (d : ℕ) → d < g.links → (eqb (g.from k) (g.to d) && (goes_up g (level g r) d || not (goes_up g (level g r) k))) ≡ true →
        goes_up g (level g r) d ≡ false → goes_up g (level g r) k ≡ false → rank_of g (level g r) (goes_up g (level g r)) d < rank_of g (level g r) (goes_up g (level g r)) k
    down_down d ld m u v =
        let a = when_down d u in
        let b = when_down k v in
        let c = not_above_number g (level g r) (g.to k) (g.from k) (z.from k lk) (λ q. z.apart k lk (sym q)) v in
        let e = meets d m in
        omega arith
