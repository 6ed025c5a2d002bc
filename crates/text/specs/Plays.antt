-- The texts of a script that is played, as lists of bytes. Assumes nothing.
use Rattle.std.specs.Prelude.{ℕ, ◌+◌, List, [], ◌++◌, length, drop, codes}
use Rattle.net.specs.declared.Block.{Block}
use Rattle.net.specs.declared.Came.{Came}
use Rattle.report.specs.Lines.{block_word, came_line, show_line, store_head, waiting_line}
use Rattle.round.specs.Running.{net_in, state_in}
use Rattle.round.specs.declared.running.Running.{Running}
use Rattle.wire.specs.declared.script.Thing.{Thing}
use Rattle.wire.specs.declared.script.Thing.TheVariants.{Block as «block», Word, Round, Show}
use Rattle.text.specs.Texts.{below, each, none_word}

-- the line of a block that came
abbrev pub came_one : ℕ → Came → List ℕ
came_one k c = came_line c ++ codes "\n"

-- a line for each block that came
abbrev pub came_text : List Came → List ℕ
came_text cs = each came_one 0 cs

-- the word of a block
abbrev pub block_one : ℕ → Block → List ℕ
block_one k b = block_word b

-- the line of a link: its credits, its turn, and the blocks of its store
abbrev pub store_text : ℕ → ℕ → ℕ → List Block → List ℕ
store_text e free turn bs = ((store_head e free turn ++ each block_one 0 bs) ++ none_word bs) ++ codes "\n"

-- the line of link e of a fabric that is run
abbrev pub store_one : Running → ℕ → List ℕ
store_one g e = store_text e ((state_in g).free e) ((state_in g).turn e) ((state_in g).queue e)

-- how many blocks wait at a door
abbrev pub waiting_one : Running → ℕ → List ℕ
waiting_one g d = waiting_line d (length ((state_in g).queue ((net_in g).links + d))) ++ codes "\n"

-- how many rounds were played, then each store, then each door
abbrev pub show_text : Running → List ℕ
show_text g = ((show_line (state_in g).round ++ codes "\n") ++ below (store_one g) (net_in g).links) ++ below (waiting_one g) (net_in g).doors

-- what a thing that was played adds to the text, where so many of those that came have been told
abbrev pub added_text : Running → ℕ → Thing → List ℕ
added_text g told Round = came_text (drop told (state_in g).came)
added_text g told Show = show_text g
added_text g told («block» b) = []
added_text g told (Word w) = []

-- how many of those that came have been told then
abbrev pub told_then : Running → ℕ → Thing → ℕ
told_then g told Round = length (state_in g).came
told_then g told Show = told
told_then g told («block» b) = told
told_then g told (Word w) = told
