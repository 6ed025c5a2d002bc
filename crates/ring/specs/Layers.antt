-- Distances back to a channel over channels not below it, as the layers find them. Assumes nothing.
use Rattle.std.specs.Prelude.{◌≡◌, ℕ, ◌+◌, ◌*◌, ◌<◌, ◌≤◌, Bool, true, false, ◌⊎◌, List, length, slice_index, slice_index_or}
use Rattle.std.specs.List.{AllByRecursion}
use Rattle.ring.specs.Ring.{Along}

-- what a square of n rows says: y hands blocks to x if there is a mark in row x at y
abbrev pub Feeds : List Bool → ℕ → ℕ → ℕ → Type 0
Feeds rows n y x = (y < n) × (x < n) × (slice_index_or rows (x * n + y) false ≡ true)

-- a way from x to c over k channels, x among them, none below c
pub record Back (H : ℕ → ℕ → Type 0) (c x k : ℕ) : Type 0 where
  pub over : List ℕ
  pub along : Along H x over c
  pub size : length over + 1 ≡ k
  pub from : c ≤ x
  pub high : AllByRecursion (λ e. c ≤ e) over

-- Numbers of at most k + 1 channels on the way back to c, 0 for none yet; up to k none is shorter and none is missing.
pub record Near (H : ℕ → ℕ → Type 0) (c k : ℕ) (away : List ℕ) : Type 0 where
  pub some : (x : ℕ) → 0 < slice_index away x → Back H c x (slice_index away x)
  pub most : (x : ℕ) → slice_index away x ≤ k + 1
  pub least : (x j : ℕ) → Back H c x j → j ≤ k → (0 < slice_index away x) × (slice_index away x ≤ j)

-- The channels from c up to y that hand blocks to x have a number now; only those that had none got one, which is k + 1.
pub record Spread (H : ℕ → ℕ → Type 0) (c k x y : ℕ) (old away : List ℕ) : Type 0 where
  pub size : length away ≡ length old
  pub near : Near H c k away
  pub only : (z : ℕ) → (slice_index away z ≡ slice_index old z) ⊎ ((slice_index old z ≡ 0) × (slice_index away z ≡ k + 1))
  pub done : (z : ℕ) → c ≤ z → z < y → H z x → 0 < slice_index away z

-- each that hands blocks to x has a way back over k channels
abbrev pub Source : (ℕ → ℕ → Type 0) → ℕ → ℕ → ℕ → Type 0
Source H c x k = (z : ℕ) → c ≤ z → H z x → Back H c z k

-- those that hand blocks to a channel below y of number k have a number
pub record Layer (H : ℕ → ℕ → Type 0) (c k y : ℕ) (away : List ℕ) : Type 0 where
  pub near : Near H c k away
  pub done : (x z : ℕ) → x < y → c ≤ x → slice_index away x ≡ k → c ≤ z → H z x → 0 < slice_index away z
