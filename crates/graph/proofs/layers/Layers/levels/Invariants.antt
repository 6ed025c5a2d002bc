use Rattle.std.proofs.Common.{◌≡◌, vec_items}
use Rattle.graph.specs.Reach.{over}
use Rattle.graph.proofs.Rooted.{Counted}
use Rattle.graph.proofs.layers.Layers.levels.Given as goal

abbrev pub invariant-loop-j : goal.invariant-loop-j
invariant-loop-j l = record {
  same : over l.self ≡ over l.fn.self;
  counted : Counted (over l.self) l.root l._j (vec_items l.self.sets) (vec_items l.levels);
}
