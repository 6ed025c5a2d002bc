-- The ways of a tree's links. Assumes nothing.
use Rattle.std.specs.Prelude.{ℕ, ◌+◌, ◌-◌, ◌*◌, Bool, false, cond, List, map, length, slice_index}
use Rattle.std.specs.List.{range_with_len}
use Rattle.graph.specs.declared.link.Link.{Link}
use Rattle.graph.specs.Graph.{Graph}
use Rattle.tree.specs.declared.way.Way.{Way}
use Rattle.tree.specs.Legal.{above, goes_up, rank_of}

-- for each link whether it goes up, and its rank
abbrev pub way_list : Graph → (ℕ → ℕ) → List Way
way_list g level = map (λ k. record { up = goes_up g level k; rank = rank_of g level (goes_up g level) k }) (range_with_len 0 g.links)

-- what stands past the end of a list of ways
abbrev pub no_way : Way
no_way = record { up = false; rank = 0 }

-- the level of a switch by a list
abbrev pub level_by : List ℕ → ℕ → ℕ
level_by ls s = slice_index ls s

-- the rank of a link by the number of switches, the level and number of the switch where it ends, and whether it goes up
abbrev pub rank_by : ℕ → ℕ → Bool → ℕ → ℕ
rank_by n l up s = cond up ((n * n + n) - (l * n + s)) (n * n + n + 1 + (l * n + s))

-- the way of a link by a list of levels
abbrev pub way_by : List ℕ → Link → Way
way_by ls l = record { up = above (level_by ls) l.to l.from; rank = rank_by (length ls) (slice_index ls l.to) (above (level_by ls) l.to l.from) l.to }
