-- What the loop of `fill` keeps: the numbers are right up to this layer. Assumes nothing.
use Rattle.std.proofs.Common.{◌≡◌}
use Rattle.ring.specs.Graph.{FeedsIn}
use Rattle.ring.specs.Layers.{Near}
use Rattle.ring.proofs.distances.Distances.fill.Given as goal

abbrev pub invariant-loop-k : goal.invariant-loop-k
invariant-loop-k l = record {
  to : l.self.to ≡ l.fn.self.to;
  graph : l.self.graph ≡ l.fn.self.graph;
  near : Near (FeedsIn l.fn.self.graph.now) l.fn.self.to l.k l.self.numbers.items;
}
