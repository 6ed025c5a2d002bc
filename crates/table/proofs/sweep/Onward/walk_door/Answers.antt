use Rattle.tree.specs.Planted.{graph_in, up_in}
use Rattle.table.proofs.Walking.{walks_more}
use Rattle.table.proofs.sweep.Onward.walk_door.Goals as goal

pub loop-p-preserved : goal.loop-p-preserved
loop-p-preserved c = walks_more (graph_in c.args.self.now.swept.tree.now) (up_in c.args.self.now.swept.tree.now) c.args.s c.loop-p.p c.args.met.now c.loop-p.met c.walk.new.met c.loop-p.invariant c.walk.ensures
