use Rattle.std.proofs.Common.{◌≡◌, ◌≤◌}
use Rattle.net.specs.Layout.{net_of}
use Rattle.machine.specs.Waits.{worst}
use Rattle.waits.specs.Laws.{share}
use Rattle.waits.specs.Working.{longest, Partly, Stays}
use Rattle.waits.proofs.Fuel.{higher}
use Rattle.waits.proofs.feeding.Feeding.+work_out.Given as goal

abbrev pub decreases-work_out : goal.decreases-work_out
decreases-work_out l = higher (net_of l.self.now.plan.now.layout) l.c

abbrev pub invariant-loop-p : goal.invariant-loop-p
invariant-loop-p l = record {
  most : l.most ≡ worst (net_of l.self.plan.now.layout) (share (net_of l.self.plan.now.layout)) l.c l.p;
  short : l.most ≤ longest;
  partly : Partly (net_of l.self.plan.now.layout) l.found;
  stays : Stays l.initial.found l.found;
}
