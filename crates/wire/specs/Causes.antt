-- Which faults a thing has, in words, and that of them the lowest number wins. Assumes nothing.
use Rattle.std.specs.Prelude.{◌≡◌, ℕ, ◌<◌, ◌≤◌, List, length, Ok, Err, Result, ◌≢◌, slice_index}
use Rattle.wire.specs.declared.fault.Fault.{Fault}
use Rattle.wire.specs.declared.fault.Fault.TheVariants.{
  Kind,
  Cut,
  Switches,
  Room,
  TooManyCables,
  NoSwitch,
  Itself,
  TooManyChannels,
  TooManyPlaces,
}
use Rattle.wire.specs.Faults.{fault_number}
use Rattle.wire.specs.Pairs.{word}
use Rattle.wire.specs.Cables.{cable_by, head_of}
use Rattle.wire.specs.Tables.{frame_of}

-- a thing that is accepted has no fault; one that is refused has the fault that is told, and none of a lower number
abbrev pub Lowest : {A : Type 0} → (Fault → Type 0) → Result A Fault → Type 0
Lowest Has (Ok x) = (g : Fault) → Has g → ⊥
Lowest Has (Err f) = Has f × ((g : Fault) → Has g → fault_number f ≤ fault_number g)

-- the first bytes of a file, where the head has a kind and a size
pub data BeginFault (kind size : ℕ) (bs : List ℕ) (f : Fault) : Type 0 where
  ends : length bs < size → f ≡ Cut → BeginFault kind size bs f
  another : 0 < length bs → (slice_index bs 0 ≢ kind) → f ≡ Kind (slice_index bs 0) → BeginFault kind size bs f

-- the head of a list of cables
pub data HeadFault (bs : List ℕ) (f : Fault) : Type 0 where
  head_begins : BeginFault 1 5 bs f → HeadFault bs f
  bad_switches :
      5 ≤ length bs → (0 < slice_index bs 1 → slice_index bs 1 ≤ 64 → ⊥) → f ≡ Switches (slice_index bs 1) → HeadFault bs f
  bad_room : 5 ≤ length bs → (0 < slice_index bs 2 → slice_index bs 2 ≤ 32 → ⊥) → f ≡ Room (slice_index bs 2) → HeadFault bs f
  many_cables :
      5 ≤ length bs → 128 < word (slice_index bs 3) (slice_index bs 4) → f ≡ TooManyCables (word (slice_index bs 3) (slice_index bs 4))
      → HeadFault bs f

-- a cable of two bytes
pub data CableFault (n a b : ℕ) (f : Fault) : Type 0 where
  first : n ≤ a → f ≡ NoSwitch a → CableFault n a b f
  second : n ≤ b → f ≡ NoSwitch b → CableFault n a b f
  itself : a ≡ b → f ≡ Itself a → CableFault n a b f

-- the head of a table
pub data FrameFault (bs : List ℕ) (f : Fault) : Type 0 where
  frame_begins : BeginFault 4 4 bs f → FrameFault bs f
  many_channels :
      4 ≤ length bs → 320 < word (slice_index bs 1) (slice_index bs 2) → f ≡ TooManyChannels (word (slice_index bs 1) (slice_index bs 2))
      → FrameFault bs f
  many_places : 4 ≤ length bs → 64 < slice_index bs 3 → f ≡ TooManyPlaces (slice_index bs 3) → FrameFault bs f

abbrev pub HeadLowest : Type 0
HeadLowest = (bs : List ℕ) → Lowest (HeadFault bs) (head_of bs)

abbrev pub CableLowest : Type 0
CableLowest = (n a b : ℕ) → Lowest (CableFault n a b) (cable_by n a b)

abbrev pub FrameLowest : Type 0
FrameLowest = (bs : List ℕ) → Lowest (FrameFault bs) (frame_of bs)
