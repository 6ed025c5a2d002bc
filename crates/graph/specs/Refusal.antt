-- Which lists of cables are accepted, and why others are refused: sizes first, then cables in their order, then whether all are joined. Assumes nothing.
use Rattle.std.specs.Prelude.{◌≡◌, ℕ, ◌<◌, ◌≤◌, ◌⊎◌, List, length, get_or, vec_items, slice_index_or}
use Rattle.net.specs.Cables.{Joins}
use Rattle.net.specs.declared.Cable.{Cable}
use Rattle.graph.specs.declared.cabling.Cabling.{Cabling}
use Rattle.graph.specs.declared.error.CableError.{CableError}
use Rattle.graph.specs.declared.error.CableError.TheVariants.{Switches, Cables, NoSwitch, Loop, Lost, Memory}
use Rattle.graph.specs.Cables.{graph_of, links_of}
use Rattle.graph.specs.Graph.{Graph, graph_with}
use Rattle.graph.specs.declared.error.TreeError.{TreeError}
use Rattle.graph.specs.declared.error.TreeError.TheVariants.{NoRoot, Memory as NoMemory}
use Rattle.graph.specs.Layers.{Levelled}
use Rattle.graph.specs.Tree.{Joined, root}
use Rattle.graph.specs.Tree as tree

abbrev pub no_cable : Cable
no_cable = record { a = 0; b = 0 }

pub record Sizes (n : ℕ) (cs : List Cable) : Type 0 where
  pub some : 0 < n
  pub few : n ≤ 64
  pub short : length cs ≤ 128

-- the cables before the k-th are sound
pub record Until (n : ℕ) (cs : List Cable) (k : ℕ) : Type 0 where
  pub sizes : Sizes n cs
  pub below : k < length cs
  pub sound : (i : ℕ) → i < k → Joins n (slice_index_or cs i no_cable)

pub record Fine (n : ℕ) (cs : List Cable) : Type 0 where
  pub sizes : Sizes n cs
  pub sound : (i : ℕ) → i < length cs → Joins n (slice_index_or cs i no_cable)

-- why a list is refused
abbrev pub Refuses : ℕ → List Cable → CableError → Type 0
Refuses n cs Switches = (n ≡ 0) ⊎ (64 < n)
Refuses n cs Cables = (0 < n) × (n ≤ 64) × (128 < length cs)
Refuses n cs (NoSwitch k) = Until n cs k × ((n ≤ (get_or cs k no_cable).a) ⊎ (n ≤ (get_or cs k no_cable).b))
Refuses n cs (Loop k) = Until n cs k × ((get_or cs k no_cable).a < n) × ((get_or cs k no_cable).a ≡ (get_or cs k no_cable).b)
Refuses n cs (Lost s) = Fine n cs × tree.Lost (graph_of n cs) s
Refuses n cs Memory = Fine n cs

-- the graph of an accepted list
abbrev pub graph_of_cabling : Cabling → Graph
graph_of_cabling g = graph_with g.switches (vec_items g.links)

-- what is made of an accepted list: its links, and the root of its tree
pub record Accepts (n : ℕ) (cs : List Cable) (g : Cabling) : Type 0 where
  pub fine : Fine n cs
  pub switches : g.switches ≡ n
  pub links : vec_items g.links ≡ links_of cs
  pub graph : graph_of_cabling g ≡ graph_of n cs
  pub root : g.root ≡ root (graph_of n cs)
  pub joined : Joined (graph_of n cs)

-- the list has each switch's level in the tree with root r
pub record Levels (g : Cabling) (r : ℕ) (ls : List ℕ) : Type 0 where
  pub below : r < g.switches
  pub levelled : Levelled (graph_of_cabling g) r ls

abbrev pub Rootless : Cabling → ℕ → TreeError → Type 0
Rootless g r NoRoot = g.switches ≤ r
Rootless g r NoMemory = r < g.switches
