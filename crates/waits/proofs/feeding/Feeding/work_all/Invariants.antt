use Rattle.std.proofs.Common.{ℕ, ◌<◌, get_or}
use Rattle.net.specs.Layout.{net_of}
use Rattle.waits.specs.Working.{Partly}
use Rattle.waits.proofs.feeding.Feeding.work_all.Given as goal

abbrev pub invariant-loop-c : goal.invariant-loop-c
invariant-loop-c l = record {
  partly : Partly (net_of l.self.plan.now.layout) l.found;
  done : (d : ℕ) → d < l.c → 0 < get_or l.found d 0;
}
