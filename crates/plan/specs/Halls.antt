-- What a file of cables comes to: its list, where all switches are joined and no bound is too long, or its first fault. Assumes nothing.
use Rattle.std.specs.Prelude.{ℕ, ◌+◌, Bool, cond, ◌||◌, List, length, Ok, Err, Result, nat_le, nat_lt}
use Rattle.net.specs.Net.{Net, channels}
use Rattle.machine.specs.Waits.{patience, wait}
use Rattle.roads.specs.Numbers.{least, some}
use Rattle.graph.specs.Graph.{Graph}
use Rattle.graph.specs.Cables.{graph_of}
use Rattle.graph.specs.Tree.{distance, root}
use Rattle.table.specs.Laid.{net_for}
use Rattle.waits.specs.Working.{longest}
use Rattle.wire.specs.declared.fault.Fault.TheVariants.{Apart, TooLong}
use Rattle.wire.specs.declared.fault.Refusal.{Refusal}
use Rattle.wire.specs.Faults.{refusal}
use Rattle.wire.specs.Cables.{Cables, cables_read}

-- the graph of a list of cables
abbrev pub graph_for : Cables → Graph
graph_for c = graph_of c.switches c.cables

-- its net, with the prescribed root
abbrev pub hall_net : Cables → Net
hall_net c = net_for (graph_for c) (root (graph_for c)) c.room

-- the lowest switch that cannot be reached from switch 0, or the number of switches
abbrev pub lost : Graph → ℕ
lost g = least (λ s. nat_le g.n (distance g 0 s)) g.n

-- some patience, or some wait from a door to a place with nothing before, is above the limit
unfoldable pub too_long : Net → Bool
too_long z =
    some (λ c. nat_lt longest (patience z c)) (channels z)
    || some (λ d. some (λ p. nat_lt longest (wait z 0 (z.links + d) p)) z.places) z.doors

-- what is looked at when all cables are read; such a fault stands at the end of the file
abbrev pub judged : ℕ → Cables → Result Cables Refusal
judged end c =
    cond (nat_lt (lost (graph_for c)) c.switches) (Err (refusal (Apart (lost (graph_for c))) end))
    (cond (too_long (hall_net c)) (Err (refusal TooLong end)) (Ok c))

abbrev pub then_judged : ℕ → Result Cables Refusal → Result Cables Refusal
then_judged end (Ok c) = judged end c
then_judged end (Err e) = Err e

-- the list of cables of a file, or the first fault
abbrev pub read_hall : List ℕ → Result Cables Refusal
read_hall bs = then_judged (length bs) (cables_read bs)
