-- What the loop of `fewest` keeps: the best of the lowest members so far, and room for the numbers. Assumes nothing.
use Rattle.std.proofs.Common.{◌≡◌, vec_len}
use Rattle.ring.specs.Fewest.{FewestOf}
use Rattle.ring.specs.Graph.{FeedsIn}
use Rattle.ring.proofs.shortest.fewest.Given as goal

abbrev pub invariant-loop-low : goal.invariant-loop-low
invariant-loop-low l = record {
  best : FewestOf (FeedsIn l.graph) l.graph.channels l.low l.best;
  room : vec_len l.numbers ≡ l.graph.channels;
}
