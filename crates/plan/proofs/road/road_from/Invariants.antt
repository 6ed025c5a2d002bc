use Rattle.std.proofs.Common.{ℕ, List, ◌++◌, vec_items}
use Rattle.net.specs.Layout.{net_of}
use Rattle.waits.specs.Laws.{Road}
use Rattle.waits.proofs.Fuel.{higher}
use Rattle.plan.proofs.road.road_from.Given as goal

abbrev pub invariant-loop-e : goal.invariant-loop-e
invariant-loop-e l = (es : List ℕ) → Road (net_of l.plan.layout) l.p l.at es → Road (net_of l.plan.layout) l.p l.c (vec_items l.road ++ es)

abbrev pub decreases-loop-e : goal.decreases-loop-e
decreases-loop-e l = higher (net_of l.plan.layout) l.at
