use Rattle.std.proofs.Common.{◌≡◌, vec_items, vec_len}
use Rattle.graph.specs.Layers.{Added}
use Rattle.graph.specs.Reach.{over}
use Rattle.graph.proofs.layers.Layers.layer.Given as goal

abbrev pub invariant-loop-link : goal.invariant-loop-link
invariant-loop-link l = record {
  same : vec_len l.sets ≡ vec_len l.fn.self.sets;
  added : Added (over l.fn.self) (vec_items l.before) l.link-index (vec_items l.sets);
}
