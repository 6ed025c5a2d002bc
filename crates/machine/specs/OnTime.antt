-- The wait is no empty promise: a run in which a block takes exactly as long as its wait. Assumes nothing.
use Rattle.std.specs.Prelude.{◌≡◌, ℕ, List, [], ◌∷◌, ◌++◌, slice_index}
use Rattle.net.specs.declared.Block.{Block}
use Rattle.net.specs.declared.Came.{Came}
use Rattle.net.specs.declared.Entry.TheVariants.{Here, Link}
use Rattle.net.specs.Layout.{entry_at}
use Rattle.net.specs.Net.{Net}
use Rattle.machine.specs.Round.{Event, Enter, Round, after}
use Rattle.machine.specs.Waits.{wait}

-- Three switches in a line, 1 - 0 - 2, with stores of one: links 0 and 2 go up to switch 0 from 1 and 2, links 1 and 3 down;
-- doors are channels 4 to 6.
abbrev pub line : Net
line = record {
  links = 4;
  doors = 3;
  places = 3;
  store = 1;
  next = λ c p. entry_at (
      Here ∷ Here ∷ Link 3 ∷
      Here ∷ Here ∷ Here ∷
      Here ∷ Link 1 ∷ Here ∷
      Here ∷ Here ∷ Here ∷
      Here ∷ Link 1 ∷ Link 3 ∷
      Link 0 ∷ Here ∷ Link 0 ∷
      Link 2 ∷ Link 2 ∷ Here ∷ []) 3 c p;
  rank = λ c. slice_index (1 ∷ 2 ∷ 1 ∷ 2 ∷ 0 ∷ 0 ∷ 0 ∷ []) c;
  ends = λ c. slice_index (0 ∷ 1 ∷ 0 ∷ 2 ∷ 0 ∷ 1 ∷ 2 ∷ []) c;
}

-- a block for place 2
abbrev pub bound : ℕ → ℕ → Block
bound d n = record { door = d; place = 2; name = n }

-- two blocks of door 1 are under way and one waits at door 0 when block 9 is let in at door 1, which is empty
abbrev pub earlier : List Event
earlier = Enter (bound 1 1) ∷ Round ∷ Enter (bound 1 2) ∷ Round ∷ Enter (bound 0 3) ∷ []

-- four rounds, with one more block at door 0 meanwhile
abbrev pub meanwhile : List Event
meanwhile = Enter (bound 1 9) ∷ Round ∷ Round ∷ Enter (bound 0 4) ∷ Round ∷ Round ∷ []

abbrev pub names : List Came → List ℕ
names [] = []
names (k ∷ ks) = k.block.name ∷ names ks

-- The wait of block 9 is five rounds; after four it has not come, after five it has.
abbrev pub OnTime : Type 0
OnTime =
    (wait line 0 5 2 ≡ 5) × ((after line earlier).queue 5 ≡ []) ×
    (names (after line (earlier ++ meanwhile)).came ≡ 1 ∷ 3 ∷ 2 ∷ 4 ∷ []) ×
    (names (after line (earlier ++ (meanwhile ++ (Round ∷ [])))).came ≡ 1 ∷ 3 ∷ 2 ∷ 4 ∷ 9 ∷ [])
