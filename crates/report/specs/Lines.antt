-- The bytes of each line that a program prints, without its newline, and of each word that is one of many in a line, with the space before it. Assumes nothing.
use Rattle.std.specs.Prelude.{ℕ, Bool, cond, List, ◌++◌, codes, decimal}
use Rattle.net.specs.declared.Block.{Block}
use Rattle.net.specs.declared.Came.{Came}
use Rattle.net.specs.declared.Entry.{Entry}
use Rattle.net.specs.declared.Entry.TheVariants.{Here, Link}

-- `came <round> place <p> door <d> name <name>`
abbrev pub came_line : Came → List ℕ
came_line c = codes "came " ++ (decimal c.round ++ (codes " place " ++ (decimal c.block.place ++ (codes " door " ++ (decimal c.block.door ++ (codes " name " ++ decimal c.block.name))))))

-- `show <rounds played>`
abbrev pub show_line : ℕ → List ℕ
show_line rounds = codes "show " ++ decimal rounds

-- `door <switch> waiting <count>`
abbrev pub waiting_line : ℕ → ℕ → List ℕ
waiting_line door count = codes "door " ++ (decimal door ++ (codes " waiting " ++ decimal count))

-- ` <door>:<name>:<place>`
abbrev pub block_word : Block → List ℕ
block_word b = codes " " ++ (decimal b.door ++ (codes ":" ++ (decimal b.name ++ (codes ":" ++ decimal b.place))))

-- `switches <n> cables <k> store <m>`
abbrev pub head_line : ℕ → ℕ → ℕ → List ℕ
head_line switches cables room = codes "switches " ++ (decimal switches ++ (codes " cables " ++ (decimal cables ++ (codes " store " ++ decimal room))))

-- `root <s>`
abbrev pub root_line : ℕ → List ℕ
root_line switch = codes "root " ++ decimal switch

-- `level <switch> <level>`
abbrev pub level_line : ℕ → ℕ → List ℕ
level_line switch level = codes "level " ++ (decimal switch ++ (codes " " ++ decimal level))

abbrev pub way_word : Bool → List ℕ
way_word up = cond up (codes "up") (codes "down")

-- `link <channel> <from> <to> up|down rank <r> patience <p>`
abbrev pub link_line : ℕ → ℕ → ℕ → Bool → ℕ → ℕ → List ℕ
link_line channel from to up rank patience =
    codes "link " ++ (decimal channel ++ (codes " " ++ (decimal from ++ (codes " " ++ (decimal to ++ (codes " " ++ (way_word up ++ (codes " rank " ++ (decimal rank ++ (codes " patience " ++ decimal patience))))))))))

-- `door <channel> <switch> patience <p>`
abbrev pub door_line : ℕ → ℕ → ℕ → List ℕ
door_line channel switch patience = codes "door " ++ (decimal channel ++ (codes " " ++ (decimal switch ++ (codes " patience " ++ decimal patience))))

-- ` here` or ` <link>`
abbrev pub entry_word : Entry → List ℕ
entry_word Here = codes " here"
entry_word (Link e) = codes " " ++ decimal e

-- `table <channel>`, before the channel's entries
abbrev pub table_head : ℕ → List ℕ
table_head channel = codes "table " ++ decimal channel

-- `road <from> <place> wait <w> switches <from>`, before the switches at which its links end
abbrev pub road_head : ℕ → ℕ → ℕ → List ℕ
road_head from place wait =
    codes "road " ++ (decimal from ++ (codes " " ++ (decimal place ++ (codes " wait " ++ (decimal wait ++ (codes " switches " ++ decimal from))))))

-- `store <link> free <count> turn <channel> blocks`, before the blocks
abbrev pub store_head : ℕ → ℕ → ℕ → List ℕ
store_head link free turn = codes "store " ++ (decimal link ++ (codes " free " ++ (decimal free ++ (codes " turn " ++ (decimal turn ++ codes " blocks")))))

-- `rank <channel> <r>`
abbrev pub rank_line : ℕ → ℕ → List ℕ
rank_line channel rank = codes "rank " ++ (decimal channel ++ (codes " " ++ decimal rank))
