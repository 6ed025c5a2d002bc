use Rattle.std.proofs.Common.{◌≡◌, take}
use Rattle.machine.specs.Round.{all_served}
use Rattle.net.specs.Order.{serving}
use Rattle.round.specs.Fabric.{net_at, state_of}
use Rattle.round.proofs.fabric.Fabric.serve_all.Given as goal

abbrev pub invariant-loop-i : goal.invariant-loop-i
invariant-loop-i l = record {
  after : state_of l.self ≡ all_served (net_at l.initial.self) (take l.i (serving (net_at l.initial.self))) (state_of l.initial.self);
  plan : l.self.plan ≡ l.initial.self.plan;
}
