use Rattle.roads.specs.Roads.{shortest}
use Rattle.tree.specs.Legal.{legal, stands}
use Rattle.tree.specs.Planted.{graph_in, up_in}
use Rattle.table.specs.Kept.{most, start}
use Rattle.table.proofs.Marking.{Going}
use Rattle.table.proofs.sweep.Onward.walk.Given as goal

abbrev pub invariant-loop-link : goal.invariant-loop-link
invariant-loop-link l = Going (graph_in l.self.swept.tree.now) (up_in l.self.swept.tree.now) l.s l.p l.initial.met l.met l.c

abbrev pub decreases-loop-link : goal.decreases-loop-link
decreases-loop-link l = shortest (legal (graph_in l.self.swept.tree.now) (up_in l.self.swept.tree.now)) (stands l.p) (most (graph_in l.self.swept.tree.now)) (start (graph_in l.self.swept.tree.now) (up_in l.self.swept.tree.now) l.c)
