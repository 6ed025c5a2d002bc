use Rattle.net.specs.Layout.{net_of}
use Rattle.waits.specs.Feeding.{Counted}
use Rattle.waits.proofs.feeding.Feeding.of.Given as goal

abbrev pub invariant-loop-c : goal.invariant-loop-c
invariant-loop-c l = Counted (net_of l.plan.layout) l.c 0 l.feeders.items

abbrev pub invariant-loop-p : goal.invariant-loop-p
invariant-loop-p l = Counted (net_of l.plan.layout) l.c l.p l.feeders.items
