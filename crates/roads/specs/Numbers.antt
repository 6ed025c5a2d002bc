-- Tests and values at the numbers below a bound: the least that passes, whether some or every one does, the greatest value. Assumes nothing.
use Rattle.std.specs.Prelude.{◌≡◌, ℕ, zero, suc, ◌<◌, ◌≤◌, max, Bool, true, false, cond, ◌&&◌, ◌||◌}

-- the least number below n that passes f, or n
unfoldable pub least : (ℕ → Bool) → ℕ → ℕ
least f zero = 0
least f (suc n) = cond (f 0) 0 (suc (least (λ k. f (suc k)) n))

unfoldable pub some : (ℕ → Bool) → ℕ → Bool
some f zero = false
some f (suc n) = f n || some f n

unfoldable pub every : (ℕ → Bool) → ℕ → Bool
every f zero = true
every f (suc n) = f n && every f n

-- the greatest value of f at the numbers below n, or 0
unfoldable pub greatest : (ℕ → ℕ) → ℕ → ℕ
greatest f zero = 0
greatest f (suc n) = max (f n) (greatest f n)

-- What it means to be the least number below n that passes f, or n: it passes, and none below it does.
pub record Least (f : ℕ → Bool) (n r : ℕ) : Type 0 where
  pub fits : r ≤ n
  pub passes : r < n → f r ≡ true
  pub none : (k : ℕ) → k < r → f k ≡ false
