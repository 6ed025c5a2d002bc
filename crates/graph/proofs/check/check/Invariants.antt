use Rattle.std.proofs.Common.{ℕ, ◌<◌, get_or}
use Rattle.net.specs.Cables.{Joins}
use Rattle.graph.specs.Refusal.{no_cable}
use Rattle.graph.proofs.check.check.Given as goal

abbrev pub invariant-loop-cable : goal.invariant-loop-cable
invariant-loop-cable l = (i : ℕ) → i < l.cable → Joins l.switches (get_or l.cables i no_cable)
