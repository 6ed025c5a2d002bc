use Rattle.std.proofs.Common.{vec_items}
use Rattle.tree.specs.Planted.{graph_in, up_in}
use Rattle.table.proofs.Walking.{Doors}
use Rattle.table.proofs.sweep.Onward.met.Given as goal

abbrev pub invariant-loop-s : goal.invariant-loop-s
invariant-loop-s l = Doors (graph_in l.self.swept.tree.now) (up_in l.self.swept.tree.now) l.s (vec_items l.met)
