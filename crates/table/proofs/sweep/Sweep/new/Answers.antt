use Rattle.std.proofs.Common.{vec_items, refl, arith}
use Rattle.tree.specs.Planted.{graph_in, up_in}
use Rattle.table.proofs.Sweeping.{first_layer}
use Rattle.table.proofs.Trees.{few}
use Rattle.table.proofs.Starting.{started_more}
use Rattle.table.proofs.sweep.Sweep.new.Goals as goal

pub loop-i-preserved : goal.loop-i-preserved
loop-i-preserved c =
    started_more c.args.tree.now.cabling.switches c.loop-i.i (vec_items c.loop-i.states) (vec_items c.push.new.self) c.in_ok-new.field-0 (omega arith) (omega arith) c.in_ok-push.ensures.items c.in_ok-new.ensures.own c.in_ok-new.ensures.row c.loop-i.invariant

pub returns : goal.returns
returns c = (
  refl,
  first_layer (graph_in c.args.tree.now) (up_in c.args.tree.now) (vec_items c.loop-i.states) (few c.args.tree.now) (λ i t l o. c.loop-i.invariant.own i t (omega arith)) c.loop-i.invariant.here,
)
