-- Foreign tables: the file 4, channels (2), places, then an entry (2) by channel and by place. Assumes nothing.
use Rattle.std.specs.Prelude.{◌≡◌, ℕ, ◌+◌, ◌-◌, ◌*◌, ◌/◌, ◌%◌, ◌<◌, ◌≤◌, cond, List, ◌∷◌, length, Ok, Err, vec_items, Result, ◌==◌, nat_le, slice_index}
use Rattle.net.specs.declared.Entry.{Entry}
use Rattle.net.specs.declared.Entry.TheVariants.{Here, Link}
use Rattle.wire.specs.declared.table.Table.{Table}
use Rattle.wire.specs.declared.table.Frame.{Frame}
use Rattle.wire.specs.declared.fault.Fault.{Fault}
use Rattle.wire.specs.declared.fault.Fault.TheVariants.{NoChannel, TooManyChannels, TooManyPlaces}
use Rattle.wire.specs.declared.fault.Refusal.{Refusal}
use Rattle.wire.specs.Files.{file_read, read_as}
use Rattle.wire.specs.Heads.{beginning, unless}
use Rattle.wire.specs.Pairs.{Each, word, pair_bytes}

-- a foreign table: how many channels and places, and the entries, channel by channel
pub record Foreign : Type 0 where
  pub channels : ℕ
  pub places : ℕ
  pub entries : List Entry

-- what the code's table holds
abbrev pub tabled : Table → Foreign
tabled t = record { channels = t.channels; places = t.places; entries = vec_items t.entries }

-- an entry by its number: 0 for here, else the next channel + 1
abbrev pub entry_by_bytes : ℕ → ℕ → Result Entry Fault
entry_by_bytes channels e =
    cond (e == 0) (Ok Here) (cond (nat_le e channels) (Ok (Link (e - 1))) (Err (NoChannel (e - 1))))

abbrev pub entry_of : ℕ → ℕ → ℕ → Result Entry Fault
entry_of channels high low = entry_by_bytes channels (word high low)

-- the head's numbers
abbrev pub frame_by_bytes : ℕ → ℕ → Result Frame Fault
frame_by_bytes channels places =
    cond (nat_le channels 320)
    (cond (nat_le places 64) (Ok (record { channels = channels; places = places })) (Err (TooManyPlaces places)))
    (Err (TooManyChannels channels))

-- the head is one thing of four bytes
abbrev pub frame_of : List ℕ → Result Frame Fault
frame_of bs = unless (beginning 4 4 bs) (frame_by_bytes (word (slice_index bs 1) (slice_index bs 2)) (slice_index bs 3))

-- the table of a head and its entries
abbrev pub table_of : Frame × List Entry → Foreign
table_of x = record { channels = x.0.channels; places = x.0.places; entries = x.1 }

-- what a file says, or its first fault: the head, then each entry, then the end
abbrev pub table_read : List ℕ → Result Foreign Refusal
table_read bs = read_as table_of (file_read frame_of (λ f. entry_of f.channels) (λ f. f.channels * f.places) 4 bs)

abbrev pub entry_number : Entry → ℕ
entry_number Here = 0
entry_number (Link c) = c + 1

-- the file of a table
abbrev pub encode_table : Foreign → List ℕ
encode_table t =
    4 ∷ t.channels / 256 ∷ t.channels % 256 ∷ t.places
    ∷ pair_bytes (λ e. entry_number e / 256) (λ e. entry_number e % 256) t.entries

-- an entry leads to a channel that is there
abbrev pub Leads : ℕ → Entry → Type 0
Leads channels Here = Unit {0}
Leads channels (Link c) = c < channels

-- a table that can be written
pub record Shaped (t : Foreign) : Type 0 where
  pub few : t.channels ≤ 320
  pub small : t.places ≤ 64
  pub full : length t.entries ≡ t.channels * t.places
  pub each : Each (Leads t.channels) t.entries
