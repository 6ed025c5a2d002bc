-- What is known of a list of patiences that is being filled. Assumes nothing.
use Rattle.std.specs.Prelude.{◌≡◌, ℕ, ◌+◌, ◌^◌, ◌<◌, ◌≤◌, ◌⊎◌, List, length, slice_index}
use Rattle.net.specs.Net.{Net, channels}
use Rattle.machine.specs.Waits.{patience, wait}

-- No patience, and no wait with nothing before, may be longer.
abbrev pub longest : ℕ
longest = 2 ^ 40

-- A slot holds 0, where nothing is worked out yet, or the patience of its channel, which is not too long.
pub record Partly (z : Net) (found : List ℕ) : Type 0 where
  pub slots : length found ≡ channels z
  pub right : (c : ℕ) → c < channels z → (slice_index found c ≡ 0) ⊎ ((slice_index found c ≡ patience z c) × (patience z c ≤ longest))

-- what was worked out stays
abbrev pub Stays : List ℕ → List ℕ → Type 0
Stays old new = (c : ℕ) → 0 < slice_index old c → 0 < slice_index new c

-- what is answered for channel c: its patience, now in its slot
pub record Worked (z : Net) (c : ℕ) (found : List ℕ) (v : ℕ) : Type 0 where
  pub is : v ≡ patience z c
  pub short : v ≤ longest
  pub kept : 0 < slice_index found c

-- every slot holds its channel's patience, and none is too long
pub record Complete (z : Net) (found : List ℕ) : Type 0 where
  pub slots : length found ≡ channels z
  pub right : (c : ℕ) → c < channels z → slice_index found c ≡ patience z c
  pub short : (c : ℕ) → c < channels z → patience z c ≤ longest

-- channel c is there, and its patience is too long
pub record TooPatient (z : Net) (c : ℕ) : Type 0 where
  pub channel : c < channels z
  pub long : longest < patience z c

-- door d and place p are there, and the wait from the one to the other with nothing before is too long
pub record TooSlow (z : Net) (d p : ℕ) : Type 0 where
  pub door : d < z.doors
  pub place : p < z.places
  pub long : longest < wait z 0 (z.links + d) p

-- no wait with nothing before is too long: from door d to any place, and from any door to any place
abbrev pub RowSoon : Net → ℕ → Type 0
RowSoon z d = (p : ℕ) → p < z.places → wait z 0 (z.links + d) p ≤ longest

abbrev pub AllSoon : Net → Type 0
AllSoon z = (d : ℕ) → d < z.doors → RowSoon z d

-- Some patience, or some wait with nothing before, is too long.
abbrev pub Exceeds : Net → Type 0
Exceeds z = ((c : ℕ) × TooPatient z c) ⊎ ((d : ℕ) × (p : ℕ) × TooSlow z d p)

-- No patience is too long, and no wait with nothing before.
pub record Within (z : Net) : Type 0 where
  pub short : (c : ℕ) → c < channels z → patience z c ≤ longest
  pub soon : AllSoon z
