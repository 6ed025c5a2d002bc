-- What patience and wait are in a good net, with no count of links left in them. Assumes nothing.
use Rattle.std.specs.Prelude.{◌≡◌, ℕ, ◌+◌, ◌*◌, ◌<◌, ◌≤◌, ◌⊎◌, List, [], ◌∷◌}
use Rattle.net.specs.declared.Entry.TheVariants.{Here, Link}
use Rattle.net.specs.Net.{Net, Good, channels}
use Rattle.machine.specs.Waits.{feeders, by_entry, worst, patience, wait}

-- what a place that the table sends over link e asks of the channel: once round all feeders of e, each as long as e is patient
abbrev pub share : Net → ℕ → ℕ
share z e = feeders z e (channels z) * patience z e

-- The patience of a channel is the largest, over its places, of 1 and of what the table's links ask.
abbrev pub PatienceLaw : Type 0
PatienceLaw = (z : Net) → Good z → (c : ℕ) → patience z c ≡ worst z (share z) c z.places

-- v is the largest of 1 and of what the entries of channel c for the places below n have: 1 for here, f e for link e
pub record Largest (z : Net) (f : ℕ → ℕ) (c n v : ℕ) : Type 0 where
  pub least : 1 ≤ v
  pub each : (p : ℕ) → p < n → by_entry 1 f (z.next c p) ≤ v
  pub reached : (v ≡ 1) ⊎ ((p : ℕ) × (p < n) × (by_entry 1 f (z.next c p) ≡ v))

-- The same with no recursion over the places.
abbrev pub LargestLaw : Type 0
LargestLaw = (z : Net) → Good z → (c : ℕ) → Largest z (share z) c z.places (patience z c)

-- the links that the table walks from channel c for place p, until it says here
pub data Road (z : Net) (p : ℕ) : ℕ → List ℕ → Type 0 where
  arrived : {c : ℕ} → z.next c p ≡ Here → Road z p c []
  over : {c e : ℕ} {es : List ℕ} → z.next c p ≡ Link e → Road z p e es → Road z p c (e ∷ es)

-- what full stores take along some links
unfoldable pub stores : Net → List ℕ → ℕ
stores z [] = 0
stores z (e ∷ es) = z.store * patience z e + stores z es

-- Each channel has a road for each place, and the wait is the channel's own part with that of the stores along the road.
abbrev pub WaitLaw : Type 0
WaitLaw =
    (z : Net) → Good z → (c p : ℕ) →
    ((es : List ℕ) × Road z p c es) ×
    ((i : ℕ) (es : List ℕ) → Road z p c es → wait z i c p ≡ (i + 1) * patience z c + stores z es)
