-- What is known of feeders after some channels, and some places of the next one. Assumes nothing.
use Rattle.std.specs.Prelude.{◌≡◌, ℕ, ◌+◌, ◌<◌, ◌≤◌, Bool, false, cond, List, length, Option, Some, None, ◌==◌, slice_index_or}
use Rattle.net.specs.Net.{Net, channels}
use Rattle.machine.specs.Waits.{feeds, feeders}
use Rattle.waits.specs.declared.feeders.Feeders.{Feeders}

abbrev pub none : Feeders
none = record { number = 0; last = None }

abbrev pub is_last : ℕ → Option ℕ → Bool
is_last c None = false
is_last c (Some k) = k == c

-- channel c counts once more, unless it was counted last
abbrev pub with : ℕ → Feeders → Feeders
with c f = cond (is_last c f.last) f (record { number = f.number + 1; last = Some c })

-- f counts the feeders of link e among the channels below c, and channel c by its places below p
pub record Counts (z : Net) (e c p : ℕ) (f : Feeders) : Type 0 where
  pub number : f.number ≡ feeders z e c + cond (feeds z e c p) 1 0
  pub last : is_last c f.last ≡ feeds z e c p
  pub early : (k : ℕ) → f.last ≡ Some k → k ≤ c

-- so it is for each link
pub record Counted (z : Net) (c p : ℕ) (fs : List Feeders) : Type 0 where
  pub slots : length fs ≡ z.links
  pub each : (e : ℕ) → e < z.links → Counts z e c p (slice_index_or fs e none)

-- each link has its number of feeders
pub record Fed (z : Net) (fs : List Feeders) : Type 0 where
  pub slots : length fs ≡ z.links
  pub number : (e : ℕ) → e < z.links → (slice_index_or fs e none).number ≡ feeders z e (channels z)
