use Rattle.std.proofs.Common.{ap, arith}
use Rattle.tree.specs.Planted.{graph_in}
use Rattle.tree.specs.declared.planted.Tree.{Tree}
use Rattle.table.proofs.Swept.{looked_more, all_looked}
use Rattle.table.proofs.sweep.Sweep.layer.Goals as goal

pub loop-k-preserved : goal.loop-k-preserved
loop-k-preserved c = looked_more c.args.self.now c.loop-k.self c.look.new.self c.loop-k.k c.loop-k.invariant c.look.ensures

pub returns : goal.returns
returns c = all_looked c.args.self.now c.loop-k.self c.loop-k.k (let t = ap (λ (t : Tree). (graph_in t).links) c.begin.ensures.tree in omega arith) c.loop-k.invariant
