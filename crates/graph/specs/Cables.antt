-- The links of a list of cables: cable k, which joins a and b, gives link 2k from a to b and link 2k + 1 from b to a. Assumes nothing.
use Rattle.std.specs.Prelude.{ℕ, List, [], ◌∷◌, flat_map}
use Rattle.net.specs.declared.Cable.{Cable}
use Rattle.graph.specs.declared.link.Link.{Link}
use Rattle.graph.specs.Graph.{Graph, graph_with}

-- the two links of a cable
abbrev pub there_and_back : Cable → List Link
there_and_back c = record { from = c.a; to = c.b } ∷ record { from = c.b; to = c.a } ∷ []

-- the links of a list of cables
abbrev pub links_of : List Cable → List Link
links_of cs = flat_map there_and_back cs

-- the graph of a list of cables
abbrev pub graph_of : ℕ → List Cable → Graph
graph_of n cs = graph_with n (links_of cs)
