-- What is kept of every cable list that is not refused and of every script, up to its end or its first fault. Assumes nothing.
use Rattle.std.specs.Prelude.{◌≡◌, ℕ, ◌<◌, ◌≤◌, List, length, drop, Some, None, Ok, Err, Option, Result}
use mathlib.Core.List.{Memᴰ}
use Rattle.net.specs.declared.Came.{Came}
use Rattle.net.specs.Net.{Net}
use Rattle.machine.specs.Promise.{Promised}
use Rattle.machine.specs.Round.{after}
use Rattle.wire.specs.declared.fault.WireError.{WireError}
use Rattle.wire.specs.declared.fault.WireError.TheVariants.{Refused, Memory}
use Rattle.wire.specs.declared.script.Thing.{Thing}
use Rattle.wire.specs.Script.{thing_read}
use Rattle.wire.specs.Cables.{Cables}
use Rattle.plan.specs.Halls.{hall_net, read_hall}
use Rattle.plan.specs.Built.{Serving}
use Rattle.play.specs.Games.{Position, Comes, events, fault_of, play_thing, stopped}

-- All that is promised of a net after the things of a script: the whole promise of the machine, from the blocks that were let in;
-- and what came did so at its place, whatever its door.
pub record Honest (z : Net) (ts : List Thing) (g : Position) : Type 0 where
  pub reached : g.state ≡ after z (events ts)
  pub promised : Promised z (events ts)
  pub at_place : (k : Came) → Memᴰ k g.state.came → z.ends k.channel ≡ k.block.place

-- The cables are not refused, and make the net; the things before the offset were read and played without a fault, and led
-- to the position; and all is kept of that.
pub record Course (cables script : List ℕ) (z : Net) (i : ℕ) (g : Position) : Type 0 where
  pub list : Cables
  pub read : read_hall cables ≡ Ok list
  pub net : z ≡ hall_net list
  pub serves : Serving z
  pub things : List Thing
  pub comes : Comes z script i things g
  pub honest : Honest z things g

-- what one step answers, and what it leaves: at the end nothing; a thing that was played; a refusal, which changes nothing
abbrev pub Steps : Net → List ℕ → ℕ → Position → Result (Option Thing) WireError → ℕ → Position → Type 0
Steps z bs i g (Ok None) j h = (length bs ≤ i) × (j ≡ i) × (h ≡ g)
Steps z bs i g (Ok (Some t)) j h =
    (i < length bs) × (thing_read i (drop i bs) ≡ Ok (t, j)) × (fault_of z g t ≡ None) × (h ≡ play_thing z t g)
Steps z bs i g (Err (Refused x)) j h =
    (i < length bs) × (stopped z g i (thing_read i (drop i bs)) ≡ Some x) × (j ≡ i) × (h ≡ g)
Steps z bs i g (Err Memory) j h = (i < length bs) × (j ≡ i) × (h ≡ g)
