-- What is promised of a layout, and why there is none. Assumes nothing.
use Rattle.std.specs.Prelude.{◌≡◌, ℕ, ◌<◌, ◌≤◌, ◌⊎◌, List}
use mathlib.Core.List.{Memᴰ}
use Rattle.net.specs.declared.layout.Layout.{Layout}
use Rattle.net.specs.declared.Came.{Came}
use Rattle.net.specs.Layout.{net_of}
use Rattle.machine.specs.Round.{Event, Orderly, after}
use Rattle.net.specs.declared.Cable.{Cable}
use Rattle.graph.specs.Graph.{Graph}
use Rattle.graph.specs.Cables.{graph_of}
use Rattle.graph.specs.Refusal.{Fine, Refuses}
use Rattle.graph.specs.Tree.{root}
use Rattle.tree.specs.declared.planted.Tree.{Tree}
pub use Rattle.tree.specs.Planted.{graph_in}
use Rattle.table.specs.declared.error.LayoutError.{LayoutError}
use Rattle.table.specs.declared.error.LayoutError.TheVariants.{Room, Cables, Memory}
use Rattle.table.specs.Laid.{Laid}
use Rattle.table.specs.Laws.{Serves}

-- the layout is that of graph g with root r, and is served: its net is good and leads everywhere
pub record Served (g : Graph) (r m : ℕ) (l : Layout) : Type 0 where
  pub laid : Laid g r m l
  pub serves : Serves g l

-- the layout of a tree
abbrev pub LaidOut : Tree → ℕ → Layout → Type 0
LaidOut t m l = Served (graph_in t) t.root m l

abbrev pub NoStore : ℕ → Type 0
NoStore m = (m ≡ 0) ⊎ (32 < m)

abbrev pub Unlaid : ℕ → LayoutError → Type 0
Unlaid m Room = NoStore m
Unlaid m (Cables e) = ⊥
Unlaid m Memory = (0 < m) × (m ≤ 32)

-- and of a list of cables, with the root of its tree
abbrev pub Planned : ℕ → List Cable → ℕ → Layout → Type 0
Planned n cs m l = Served (graph_of n cs) (root (graph_of n cs)) m l

abbrev pub Unplanned : ℕ → List Cable → ℕ → LayoutError → Type 0
Unplanned n cs m Room = Fine n cs × NoStore m
Unplanned n cs m (Cables e) = Refuses n cs e
Unplanned n cs m Memory = Fine n cs

-- The floors joined: in the net of every accepted list of cables, whatever is let in, each block that came did so at its place.
abbrev pub EachAtItsPlace : Type 0
EachAtItsPlace =
    (n : ℕ) (cs : List Cable) (m : ℕ) (l : Layout) → Planned n cs m l → (vs : List Event) → Orderly (net_of l) vs →
    (k : Came) → Memᴰ k (after (net_of l) vs).came → k.block.door < n → k.block.place < n → (net_of l).ends k.channel ≡ k.block.place
