-- The lowest member and the number of members of a ring of fewest, as the search over channels finds them. Assumes nothing.
use Rattle.std.specs.Prelude.{ℕ, ◌+◌, ◌<◌, ◌≤◌, Option, Some, None}
use Rattle.ring.specs.declared.shortest.Best.{Best}
use Rattle.ring.specs.Layers.{Back}

-- there is a ring with these, and none as short has a lower lowest member
pub record Found (H : ℕ → ℕ → Type 0) (y low members : ℕ) : Type 0 where
  pub within : low < y
  pub back : Back H low low members
  pub lower : (m j : ℕ) → m < low → Back H m m j → members < j

-- Of the rings whose lowest member is below y none has fewer members, which are n + 1 if none was found.
pub record Fewest (H : ℕ → ℕ → Type 0) (n y low members : ℕ) : Type 0 where
  pub some : 0 < members
  pub most : members ≤ n + 1
  pub least : (m j : ℕ) → m < y → Back H m m j → members ≤ j
  pub found : members ≤ n → Found H y low members

-- how many members the best has so far; more than n if there is none
abbrev pub members_of : ℕ → Option Best → ℕ
members_of n None = n + 1
members_of n (Some b) = b.members

-- What was found, if a ring of at most n members was.
abbrev pub FewestOf : (ℕ → ℕ → Type 0) → ℕ → ℕ → Option Best → Type 0
FewestOf H n y None = (m j : ℕ) → m < y → Back H m m j → n < j
FewestOf H n y (Some b) = (b.members ≤ n) × Fewest H n y b.low b.members
