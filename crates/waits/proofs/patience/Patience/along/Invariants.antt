use Rattle.net.specs.Layout.{net_of}
use Rattle.waits.proofs.Fuel.{higher}
use Rattle.waits.proofs.Roads.{Walked}
use Rattle.waits.proofs.patience.Patience.along.Given as goal

abbrev pub invariant-loop-e : goal.invariant-loop-e
invariant-loop-e l = Walked (net_of l.self.plan.now.layout) l.c l.p l.at l.sum

abbrev pub decreases-loop-e : goal.decreases-loop-e
decreases-loop-e l = higher (net_of l.self.plan.now.layout) l.at
