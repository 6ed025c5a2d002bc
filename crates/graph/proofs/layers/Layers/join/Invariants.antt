use Rattle.std.proofs.Common.{◌≡◌, ◌-◌, vec_items}
use Rattle.graph.specs.Reach.{over}
use Rattle.graph.proofs.Rooted.{Late}
use Rattle.graph.proofs.layers.Layers.join.Given as goal

abbrev pub invariant-loop-j : goal.invariant-loop-j
invariant-loop-j l = record {
  same : over l.self ≡ over l.fn.self;
  late : Late (over l.self) (l._j - 1) (vec_items l.self.sets);
}
