-- Walking down the distances: the next channel, and the way back that is first in order. Assumes nothing.
use Rattle.std.specs.Prelude.{◌≡◌, ℕ, ◌+◌, ◌<◌, ◌≤◌, List, [], ◌∷◌, length, slice_index}
use Rattle.std.specs.List.{AllByRecursion}
use Rattle.ring.specs.Ring.{Along, Differ, NotAfter}

-- x hands blocks to e, from which the way back is one shorter
pub record GoesOn (H : ℕ → ℕ → Type 0) (away : List ℕ) (x e : ℕ) : Type 0 where
  pub hands : H x e
  pub some : 0 < slice_index away e
  pub nearer : slice_index away e + 1 ≡ slice_index away x

-- e is the lowest channel that goes on from x
pub record NextOn (H : ℕ → ℕ → Type 0) (c : ℕ) (away : List ℕ) (x e : ℕ) : Type 0 where
  pub goes : GoesOn H away x e
  pub from : c ≤ e
  pub lowest : (d : ℕ) → H x d → c ≤ d → slice_index away d + 1 ≡ slice_index away x → e ≤ d

-- From x over the list back to c by as many channels as its number says; the numbers fall, and no such way comes before it in order.
pub record Lowest (H : ℕ → ℕ → Type 0) (c : ℕ) (away : List ℕ) (x : ℕ) (es : List ℕ) : Type 0 where
  pub along : Along H x es c
  pub size : length es + 1 ≡ slice_index away x
  pub from : c ≤ x
  pub high : AllByRecursion (λ e. c ≤ e) es
  pub falls : AllByRecursion (λ e. slice_index away e < slice_index away x) es
  pub differ : Differ (x ∷ es)
  pub first : (ds : List ℕ) → Along H x ds c → AllByRecursion (λ e. c ≤ e) ds → length ds ≡ length es → NotAfter es ds

-- such a way from c itself
abbrev pub LowestRing : (ℕ → ℕ → Type 0) → ℕ → List ℕ → List ℕ → Type 0
LowestRing H c away [] = ⊥
LowestRing H c away (x ∷ es) = (x ≡ c) × Lowest H c away x es
