-- What a tree says of its links. Assumes nothing.
use Rattle.std.specs.Prelude.{ℕ, Bool, vec_items, slice_index_or}
use Rattle.graph.specs.Graph.{Graph}
use Rattle.graph.specs.Refusal.{graph_of_cabling}
use Rattle.tree.specs.declared.planted.Tree.{Tree}
use Rattle.tree.specs.Listed.{no_way}

-- the graph of its cabling
abbrev pub graph_in : Tree → Graph
graph_in t = graph_of_cabling t.cabling

-- whether link k goes up
abbrev pub up_in : Tree → ℕ → Bool
up_in t k = (slice_index_or (vec_items t.ways) k no_way).up

-- the rank of link k
abbrev pub rank_in : Tree → ℕ → ℕ
rank_in t k = (slice_index_or (vec_items t.ways) k no_way).rank
