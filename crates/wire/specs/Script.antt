-- Scripts: a block is 2, door, place, name (4); a word of a free place 3, link (2); a round 5; show 6. Assumes nothing.
use Rattle.std.specs.Prelude.{ℕ, ◌+◌, ◌/◌, ◌%◌, cond, List, [], ◌∷◌, length, Ok, Err, Result, ◌==◌, nat_lt, slice_index}
use Rattle.net.specs.declared.Block.{Block as Parcel}
use Rattle.wire.specs.declared.script.Thing.{Thing}
use Rattle.wire.specs.declared.script.Thing.TheVariants.{Block, Word, Round, Show}
use Rattle.wire.specs.declared.script.Kind.{Kind}
use Rattle.wire.specs.declared.script.Kind.TheVariants.{Block as OfBlock, Word as OfWord, Round as OfRound, Show as OfShow}
use Rattle.wire.specs.declared.fault.Fault.{Fault}
use Rattle.wire.specs.declared.fault.Fault.TheVariants.{Kind as Unknown, Cut}
use Rattle.wire.specs.declared.fault.Refusal.{Refusal}
use Rattle.wire.specs.Faults.{refusal}
use Rattle.wire.specs.Pairs.{word}

-- the kind of a thing by its first byte
abbrev pub kind_of : ℕ → Result Kind Fault
kind_of code =
    cond (code == 2) (Ok OfBlock)
    (cond (code == 3) (Ok OfWord)
    (cond (code == 5) (Ok OfRound)
    (cond (code == 6) (Ok OfShow)
    (Err (Unknown code)))))

-- what begins at an offset, with the offset after it, by what it is and how many bytes it takes
abbrev pub moved : ℕ → Result (Thing × ℕ) Fault → Result (Thing × ℕ) Refusal
moved at (Ok x) = Ok (x.0, at + x.1)
moved at (Err f) = Err (refusal f at)

-- four bytes, high byte first
abbrev pub name4 : ℕ → ℕ → ℕ → ℕ → ℕ
name4 a b c d = word (word (word a b) c) d

-- a block of the bytes after its kind
abbrev pub block_of : List ℕ → Parcel
block_of bs =
    record {
      door = slice_index bs 0;
      place = slice_index bs 1;
      name = name4 (slice_index bs 2) (slice_index bs 3) (slice_index bs 4) (slice_index bs 5);
    }

-- the thing of this size that begins at an offset, with the offset after it, where so many bytes come after its kind
abbrev pub sized : ℕ → Thing → ℕ → List ℕ → Result (Thing × ℕ) Refusal
sized size t at bs = cond (nat_lt (length bs) size) (Err (refusal Cut at)) (Ok (t, at + 1 + size))

-- the thing that begins at an offset, with the offset after it, where the bytes from there on are these
abbrev pub thing_read : ℕ → List ℕ → Result (Thing × ℕ) Refusal
thing_read at [] = Err (refusal Cut at)
thing_read at (kind ∷ bs) =
    cond (kind == 2) (sized 6 (Block (block_of bs)) at bs)
    (cond (kind == 3) (sized 2 (Word (word (slice_index bs 0) (slice_index bs 1))) at bs)
    (cond (kind == 5) (sized 0 Round at bs)
    (cond (kind == 6) (sized 0 Show at bs)
    (Err (refusal (Unknown kind) at)))))

-- the bytes of a thing
abbrev pub encode_thing : Thing → List ℕ
encode_thing (Block b) =
    2 ∷ b.door ∷ b.place ∷ b.name / 256 / 256 / 256 ∷ b.name / 256 / 256 % 256 ∷ b.name / 256 % 256
    ∷ b.name % 256 ∷ []
encode_thing (Word l) = 3 ∷ l / 256 ∷ l % 256 ∷ []
encode_thing Round = 5 ∷ []
encode_thing Show = 6 ∷ []
