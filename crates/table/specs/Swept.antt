-- What a step of the sweep does to the states of a tree. Assumes nothing.
use Rattle.std.specs.Prelude.{◌≡◌, ℕ, Bool, suc, ◌+◌, ◌<◌, vec_items}
use Rattle.graph.specs.Graph.{Graph}
use Rattle.tree.specs.Planted.{graph_in, up_in}
use Rattle.table.specs.declared.sweep.Sweep.{Sweep}
use Rattle.table.specs.Kept.{most}
use Rattle.table.specs.Cells.{Layer, Held, Relaxed}

-- the graph of a sweep's tree, and which of its links go up
abbrev pub swept_graph : Sweep → Graph
swept_graph w = graph_in w.tree.now

abbrev pub swept_up : Sweep → ℕ → Bool
swept_up w = up_in w.tree.now

-- in the same tree a link from state x to state y was looked at
pub record Steps (w : Sweep) (x y k : ℕ) (w' : Sweep) : Type 0 where
  pub tree : w'.tree.now ≡ w.tree.now
  pub relaxed : Relaxed (swept_graph w).n (vec_items w.states) x y k (vec_items w'.states)

-- in the same tree link k was looked at, in whatever layer
pub record Looks (w : Sweep) (k : ℕ) (w' : Sweep) : Type 0 where
  pub tree : w'.tree.now ≡ w.tree.now
  pub held : (j : ℕ) → Held (swept_graph w) (swept_up w) j (vec_items w.states) → Held (swept_graph w) (swept_up w) j (vec_items w'.states)
  pub layer : (j : ℕ) → suc j < most (swept_graph w) → Held (swept_graph w) (swept_up w) j (vec_items w.states) →
      Layer (swept_graph w) (swept_up w) j k (vec_items w.states) → Layer (swept_graph w) (swept_up w) j (k + 1) (vec_items w'.states)

-- in the same tree the first k links were looked at in a layer more, with the layer before beside it
pub record Underway (w : Sweep) (k : ℕ) (w' : Sweep) : Type 0 where
  pub tree : w'.tree.now ≡ w.tree.now
  pub held : (j : ℕ) → Layer (swept_graph w) (swept_up w) j 0 (vec_items w.states) → Held (swept_graph w) (swept_up w) j (vec_items w'.states)
  pub layer : (j : ℕ) → Layer (swept_graph w) (swept_up w) j 0 (vec_items w.states) → suc j < most (swept_graph w) →
      Layer (swept_graph w) (swept_up w) j k (vec_items w'.states)

-- in the same tree every link was looked at: a layer more, with the layer before beside it
pub record Layers (w w' : Sweep) : Type 0 where
  pub tree : w'.tree.now ≡ w.tree.now
  pub held : (j : ℕ) → Layer (swept_graph w) (swept_up w) j 0 (vec_items w.states) → Held (swept_graph w) (swept_up w) j (vec_items w'.states)
  pub more : (j : ℕ) → suc j < most (swept_graph w) → Layer (swept_graph w) (swept_up w) j 0 (vec_items w.states) →
      Layer (swept_graph w) (swept_up w) (suc j) 0 (vec_items w'.states)
