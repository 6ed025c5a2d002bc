-- The order in which links are served: highest rank first, among equals the lower number. Assumes nothing.
use Rattle.std.specs.Prelude.{◌≡◌, ℕ, zero, suc, ◌<◌, cond, ◌⊎◌, List, [], ◌∷◌, length, nat_lt, slice_index}
use Rattle.net.specs.Net.{Net}

-- e stands before the first of lower rank
unfoldable pub insert_by : (ℕ → ℕ) → ℕ → List ℕ → List ℕ
insert_by r e [] = e ∷ []
insert_by r e (x ∷ xs) = cond (nat_lt (r x) (r e)) (e ∷ x ∷ xs) (x ∷ insert_by r e xs)

-- the numbers below n in the order of serving
unfoldable pub order : (ℕ → ℕ) → ℕ → List ℕ
order r zero = []
order r (suc n) = insert_by r n (order r n)

abbrev pub serving : Net → List ℕ
serving z = order z.rank z.links

-- a is served before e
abbrev pub Before : (ℕ → ℕ) → ℕ → ℕ → Type 0
Before r a e = (r e < r a) ⊎ ((r a ≡ r e) × (a < e))

-- What makes a list the order of serving of the numbers below n: each stands in it at one position, and of two positions the earlier is served before.
pub record Serves (r : ℕ → ℕ) (n : ℕ) (es : List ℕ) : Type 0 where
  pub size : length es ≡ n
  pub within : (i : ℕ) → i < n → slice_index es i < n
  pub each : (e : ℕ) → e < n → (i : ℕ) × (i < n) × (slice_index es i ≡ e)
  pub sorted : (i j : ℕ) → i < j → j < n → Before r (slice_index es i) (slice_index es j)

abbrev pub InOrderOfRank : Type 0
InOrderOfRank = (r : ℕ → ℕ) (n : ℕ) → Serves r n (order r n)
