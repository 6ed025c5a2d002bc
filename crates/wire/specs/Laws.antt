-- The laws of reading: each is proved, and is the contract of one function. Assumes nothing.
use Rattle.std.specs.Prelude.{◌≡◌, ℕ, ◌+◌, ◌-◌, ◌*◌, ◌/◌, ◌<◌, cond, List, ◌++◌, length, take, drop, Ok, Err, nat_lt}
use Rattle.wire.specs.declared.fault.Fault.TheVariants.{Cut}
use Rattle.wire.specs.Faults.{refusal}
use Rattle.wire.specs.Pairs.{Bytes}
use Rattle.wire.specs.Cables.{Cables, Proper, cables_read, encode_cables}
use Rattle.wire.specs.declared.script.Thing.{Thing}
use Rattle.wire.specs.Script.{thing_read, encode_thing}
use Rattle.wire.specs.Tables.{Foreign, Shaped, table_read, encode_table}

-- where the thing begins that byte k belongs to: the head, or one of the things of two bytes after it
abbrev pub begin_of : ℕ → ℕ → ℕ
begin_of head k = cond (nat_lt k head) 0 (head + 2 * ((k - head) / 2))

-- an accepted list of cables is the encoding of its value
abbrev pub CablesEncoded : Type 0
CablesEncoded = (bs : List ℕ) (c : Cables) → Bytes bs → cables_read bs ≡ Ok c → encode_cables c ≡ bs

-- the value of an accepted list is one that can be written
abbrev pub CablesProper : Type 0
CablesProper = (bs : List ℕ) (c : Cables) → cables_read bs ≡ Ok c → Proper c

-- what can be written is read again
abbrev pub CablesBack : Type 0
CablesBack = (c : Cables) → Proper c → cables_read (encode_cables c) ≡ Ok c

-- an accepted file that is cut is refused where it is cut
abbrev pub CablesCut : Type 0
CablesCut =
    (bs : List ℕ) (c : Cables) (k : ℕ) → cables_read bs ≡ Ok c → k < length bs
    → cables_read (take k bs) ≡ Err (refusal Cut (begin_of 5 k))

-- the same of tables
abbrev pub TableEncoded : Type 0
TableEncoded = (bs : List ℕ) (t : Foreign) → Bytes bs → table_read bs ≡ Ok t → encode_table t ≡ bs

abbrev pub TableShaped : Type 0
TableShaped = (bs : List ℕ) (t : Foreign) → table_read bs ≡ Ok t → Shaped t

abbrev pub TableBack : Type 0
TableBack = (t : Foreign) → Shaped t → table_read (encode_table t) ≡ Ok t

abbrev pub TableCut : Type 0
TableCut =
    (bs : List ℕ) (t : Foreign) (k : ℕ) → table_read bs ≡ Ok t → k < length bs
    → table_read (take k bs) ≡ Err (refusal Cut (begin_of 4 k))

-- a thing that is read: the bytes begin with its encoding, and the offset after it is that of the bytes after
abbrev pub ThingEncoded : Type 0
ThingEncoded =
    (at : ℕ) (bs : List ℕ) (t : Thing) (to : ℕ) → Bytes bs → thing_read at bs ≡ Ok (t, to)
    → (encode_thing t ++ drop (length (encode_thing t)) bs ≡ bs) × (at + length (encode_thing t) ≡ to)

-- a thing that is written is read again, whatever comes after it
abbrev pub ThingBack : Type 0
ThingBack =
    (at : ℕ) (t : Thing) (rest : List ℕ) → thing_read at (encode_thing t ++ rest) ≡ Ok (t, at + length (encode_thing t))

-- a thing of which the script has only a front part is refused at its first byte
abbrev pub ThingCut : Type 0
ThingCut =
    (at : ℕ) (bs : List ℕ) (t : Thing) (to k : ℕ) → thing_read at bs ≡ Ok (t, to) → at + k < to
    → thing_read at (take k bs) ≡ Err (refusal Cut at)
