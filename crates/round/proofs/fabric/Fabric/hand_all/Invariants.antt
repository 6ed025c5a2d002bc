use Rattle.std.proofs.Common.{◌≡◌, ◌+◌, ◌-◌, ◌≤◌, vec_len, vec_capacity}
use Rattle.machine.specs.Round.{all_handed}
use Rattle.net.specs.Net.{channels}
use Rattle.round.specs.Fabric.{net_at, state_of}
use Rattle.round.proofs.fabric.Fabric.hand_all.Given as goal

abbrev pub invariant-loop-c : goal.invariant-loop-c
invariant-loop-c l = record {
  after : state_of l.self ≡ all_handed (net_at l.initial.self) l.c (state_of l.initial.self);
  plan : l.self.plan ≡ l.initial.self.plan;
  room : vec_len l.self.came + (channels (net_at l.initial.self) - l.c) ≤ vec_capacity l.self.came;
}
