-- Rings over any relation between channels, and the smallest of them. Assumes nothing.
use Rattle.std.specs.Prelude.{◌≡◌, ℕ, ◌<◌, ◌≤◌, ◌⊎◌, List, [], ◌∷◌, length, ◌≢◌}
use Rattle.std.specs.List.{AllByRecursion}

-- a way from c over the members of a list, in their order, to y: each hands blocks to the next
abbrev pub Along : (ℕ → ℕ → Type 0) → ℕ → List ℕ → ℕ → Type 0
Along H c [] y = H c y
Along H c (e ∷ es) y = H c e × Along H e es y

-- all different
abbrev pub Differ : List ℕ → Type 0
Differ [] = Unit {0}
Differ (c ∷ cs) = AllByRecursion (λ e. c ≢ e) cs × Differ cs

-- A ring: channels, all different, each handing blocks to the next and the last to the first.
abbrev pub Ring : (ℕ → ℕ → Type 0) → List ℕ → Type 0
Ring H [] = ⊥
Ring H (c ∷ cs) = Along H c cs c × Differ (c ∷ cs)

abbrev pub NoRing : (ℕ → ℕ → Type 0) → Type 0
NoRing H = (cs : List ℕ) → Ring H cs → ⊥

-- written from its lowest member on
abbrev pub FromLowest : List ℕ → Type 0
FromLowest [] = Unit {0}
FromLowest (c ∷ cs) = AllByRecursion (λ e. c ≤ e) cs

-- in order, member by member, the first list comes before the second or is the same
abbrev pub NotAfter : List ℕ → List ℕ → Type 0
NotAfter [] ds = Unit {0}
NotAfter (c ∷ cs) [] = ⊥
NotAfter (c ∷ cs) (d ∷ ds) = (c < d) ⊎ ((c ≡ d) × NotAfter cs ds)

-- A ring from its lowest member on, such that no ring has fewer members, and none of as many comes before it in order.
pub record Smallest (H : ℕ → ℕ → Type 0) (cs : List ℕ) : Type 0 where
  pub ring : Ring H cs
  pub lowest : FromLowest cs
  pub fewest : (ds : List ℕ) → Ring H ds → length cs ≤ length ds
  pub first : (ds : List ℕ) → Ring H ds → FromLowest ds → length ds ≡ length cs → NotAfter cs ds
