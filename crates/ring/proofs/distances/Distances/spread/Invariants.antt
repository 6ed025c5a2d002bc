-- What the loop of `spread` keeps: the channels so far are marked. Assumes nothing.
use Rattle.std.proofs.Common.{◌≡◌}
use Rattle.ring.specs.Graph.{FeedsIn}
use Rattle.ring.specs.Layers.{Spread}
use Rattle.ring.proofs.distances.Distances.spread.Given as goal

abbrev pub invariant-loop-y : goal.invariant-loop-y
invariant-loop-y l = record {
  to : l.self.to ≡ l.initial.self.to;
  graph : l.self.graph ≡ l.initial.self.graph;
  spread : Spread (FeedsIn l.initial.self.graph.now) l.initial.self.to l.k l.x l.y l.initial.self.numbers.items l.self.numbers.items;
}
