use Rattle.std.proofs.Common.{◌<◌}
use Rattle.tree.specs.Planted.{graph_in, up_in}
use Rattle.table.specs.Marked.{Walks}
use Rattle.table.proofs.sweep.Onward.walk_door.Given as goal

abbrev pub invariant-loop-p : goal.invariant-loop-p
invariant-loop-p l = Walks (graph_in l.self.swept.tree.now) (up_in l.self.swept.tree.now) l.s (λ q. q < l.p) l.initial.met l.met
