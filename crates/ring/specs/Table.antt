-- A foreign table: its sizes, which of its channels hand blocks to which, and entries that name no channel. Assumes nothing.
use Rattle.std.specs.Prelude.{◌≡◌, ℕ, ◌*◌, ◌<◌, ◌≤◌, Bool, true, false, ◌⊎◌, List, length, nat_lt, slice_index_or}
use Rattle.net.specs.declared.Entry.{Entry}
use Rattle.net.specs.declared.Entry.TheVariants.{Here, Link}
use Rattle.net.specs.Layout.{entry_at}
use Rattle.ring.specs.Layers.{Feeds}

-- at most 320 channels and 64 places, and an entry for each channel and place
pub record Sized (es : List Entry) (n m : ℕ) : Type 0 where
  pub few : n ≤ 320
  pub places : m ≤ 64
  pub table : length es ≡ n * m

-- Channel c hands blocks to e: for some place its entry says e.
abbrev pub Hands : List Entry → ℕ → ℕ → ℕ → Type 0
Hands es m c e = (p : ℕ) × (p < m) × (entry_at es m c p ≡ Link e)

-- what the table says for channel c, place by place
pub record IsRow (es : List Entry) (m c : ℕ) (row : List Entry) : Type 0 where
  pub size : length row ≡ m
  pub entry : (p : ℕ) → p < m → slice_index_or row p Here ≡ entry_at es m c p

-- an entry says here, or names one of n channels
abbrev pub names : ℕ → Entry → Bool
names n Here = true
names n (Link e) = nat_lt e n

-- every entry does
abbrev pub InRange : List Entry → ℕ → ℕ → Type 0
InRange es n m = (c p : ℕ) → names n (entry_at es m c p) ≡ true

-- in the row of channel c, p is the first place whose entry names no channel
pub record FirstInRow (es : List Entry) (n m c p : ℕ) : Type 0 where
  pub place : p < m
  pub strays : names n (entry_at es m c p) ≡ false
  pub first : (q : ℕ) → q < p → names n (entry_at es m c q) ≡ true

-- and c is the first channel with such a place
pub record FirstStray (es : List Entry) (n m c p : ℕ) : Type 0 where
  pub channel : c < n
  pub here : FirstInRow es n m c p
  pub earlier : (d q : ℕ) → d < c → names n (entry_at es m d q) ≡ true

-- The square's marks are right, and none is missing for channels below c and for c at places below p.
pub record Marked (es : List Entry) (n m c p : ℕ) (rows : List Bool) : Type 0 where
  pub only : (y x : ℕ) → Feeds rows n y x → Hands es m y x
  pub each : (y q x : ℕ) → (y < c) ⊎ ((y ≡ c) × (q < p)) → q < m → entry_at es m y q ≡ Link x → Feeds rows n y x
