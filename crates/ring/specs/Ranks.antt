-- Ranks of channels: the least that rise wherever blocks are handed on, the net with them, and how the code raises them. Assumes nothing.
use Rattle.std.specs.Prelude.{◌≡◌, ℕ, ◌+◌, ◌<◌, ◌≤◌, Bool, true, false, ◌⊎◌, List, length, sum, slice_index}
use Rattle.net.specs.declared.Entry.{Entry}
use Rattle.net.specs.declared.Entry.TheVariants.{Link}
use Rattle.net.specs.Layout.{entry_at}
use Rattle.net.specs.Net.{Net, Good}
use Rattle.ring.specs.Ring.{NoRing}
use Rattle.ring.specs.Table.{Hands}

-- Ranks rise wherever blocks are handed on; 0 where none hands blocks to a channel, else one more than the largest of those
-- that do. No ranks that rise are lower.
pub record LeastRanks (H : ℕ → ℕ → Type 0) (r : ℕ → ℕ) : Type 0 where
  pub rises : (c e : ℕ) → H c e → r c < r e
  pub none : (e : ℕ) → ((c : ℕ) → H c e → ⊥) → r e ≡ 0
  pub largest : (c e : ℕ) → H c e → (d : ℕ) × H d e × (r e ≡ r d + 1) × ((f : ℕ) → H f e → r f ≤ r d)
  pub least : (q : ℕ → ℕ) → ((c e : ℕ) → H c e → q c < q e) → (e : ℕ) → r e ≤ q e

-- the net of a table with ranks; the last d of its channels are doors
abbrev pub net_with : List Entry → ℕ → (ℕ → ℕ) → (ℕ → ℕ) → ℕ → ℕ → ℕ → Net
net_with es m r ends l d s = record { links = l; doors = d; places = m; store = s; next = λ c p. entry_at es m c p; rank = r; ends = ends }

-- With those ranks the table is a good net, whichever of its last channels are doors, as long as none hands blocks to a
-- door, wherever its channels end, and whatever its stores hold.
abbrev pub MakesGood : List Entry → ℕ → ℕ → (ℕ → ℕ) → Type 0
MakesGood es n m r =
    (ends : ℕ → ℕ) (l d s : ℕ) → l + d ≡ n → ((c e : ℕ) → Hands es m c e → e < l) → 0 < s → Good (net_with es m r ends l d s)

-- no rank is higher than one more than that of some channel that hands blocks on
abbrev pub Backed : (ℕ → ℕ → Type 0) → List ℕ → Type 0
Backed H r = (x : ℕ) → (slice_index r x ≡ 0) ⊎ ((y : ℕ) × H y x × (slice_index r x ≤ slice_index r y + 1))

-- Ranks after some pairs were looked at: as before and rising over those pairs, or higher in sum.
pub record Lifted (H S : ℕ → ℕ → Type 0) (old new : List ℕ) (changed : Bool) : Type 0 where
  pub backed : Backed H new
  pub still : changed ≡ false → (new ≡ old) × ((c e : ℕ) → S c e → slice_index new c < slice_index new e)
  pub more : changed ≡ true → sum old < sum new

-- what the entry of channel c for place p says; those of c for places below p; those of channels below c
abbrev pub AtEntry : List Entry → ℕ → ℕ → ℕ → ℕ → ℕ → Type 0
AtEntry es m c p d e = (d ≡ c) × (entry_at es m c p ≡ Link e)

abbrev pub InRow : List Entry → ℕ → ℕ → ℕ → ℕ → ℕ → Type 0
InRow es m c p d e = (d ≡ c) × ((q : ℕ) × (q < p) × (entry_at es m c q ≡ Link e))

abbrev pub Below : List Entry → ℕ → ℕ → ℕ → ℕ → Type 0
Below es m c d e = (d < c) × Hands es m d e

-- a table without a ring, and ranks that can be raised
pub record Ready (es : List Entry) (n m : ℕ) (r : List ℕ) : Type 0 where
  pub free : NoRing (Hands es m)
  pub size : length r ≡ n
  pub backed : Backed (Hands es m) r
