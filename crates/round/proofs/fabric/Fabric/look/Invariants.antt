use Rattle.std.proofs.Common.{◌≡◌, ◌<◌, None}
use Rattle.net.specs.Net.{channels}
use Rattle.round.specs.Fabric.{net_at, state_of}
use Rattle.round.proofs.Halves.{Quiet}
use Rattle.round.proofs.fabric.Fabric.look.Given as goal

abbrev pub invariant-loop-c : goal.invariant-loop-c
invariant-loop-c l = (l.found ≡ None) × Quiet (net_at l.self) l.e (state_of l.self).queue l.from l.c

abbrev pub invariant-look : goal.invariant-look
invariant-look l =
    (l.found ≡ None) ×
    (0 < l.from-index → Quiet (net_at l.self) l.e (state_of l.self).queue l.turn (channels (net_at l.self))) ×
    (1 < l.from-index → Quiet (net_at l.self) l.e (state_of l.self).queue 0 l.turn)
