-- The tree of accepted cables with a given root. Assumes nothing.
use Rattle.std.specs.Prelude.{◌≡◌, ℕ, vec_items}
use Rattle.graph.specs.declared.cabling.Cabling.{Cabling}
use Rattle.graph.specs.Refusal.{Levels}
use Rattle.tree.specs.declared.planted.Tree.{Tree}

-- the tree is of these cables and has this root; what else it holds, its own fields say
pub record Planted (c : Cabling) (r : ℕ) (t : Tree) : Type 0 where
  pub cabling : t.cabling ≡ c
  pub root : t.root ≡ r
  pub levels : Levels c r (vec_items t.levels)
