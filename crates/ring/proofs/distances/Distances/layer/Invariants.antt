-- What the loop of `layer` keeps: the layer is done up to here. Assumes nothing.
use Rattle.std.proofs.Common.{◌≡◌, ℕ, ◌<◌, false, get_or}
use Rattle.ring.specs.Graph.{FeedsIn}
use Rattle.ring.specs.Layers.{Layer}
use Rattle.ring.proofs.distances.Distances.layer.Given as goal

abbrev pub invariant-loop-x : goal.invariant-loop-x
invariant-loop-x l = record {
  to : l.self.to ≡ l.initial.self.to;
  graph : l.self.graph ≡ l.initial.self.graph;
  layer : Layer (FeedsIn l.initial.self.graph.now) l.initial.self.to l.k l.x l.self.numbers.items;
  none : l.found ≡ false → (z : ℕ) → z < l.x → get_or l.self.numbers.items z 0 ≡ l.k → ⊥;
}
