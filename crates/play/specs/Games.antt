-- A script played against a net: which thing has a fault, and what each other one does. Assumes nothing.
use Rattle.std.specs.Prelude.{◌≡◌, ℕ, ◌+◌, ◌<◌, cond, List, [], ◌∷◌, ◌++◌, length, drop, Some, None, Ok, Err, Option, Result, nat_le, nat_lt}
use Rattle.net.specs.declared.Block.{Block as Parcel}
use Rattle.net.specs.Net.{Net}
use Rattle.machine.specs.Round.{State, Event, Enter, Round as Played, start, at, enter, round}
use Rattle.wire.specs.declared.fault.Fault.{Fault}
use Rattle.wire.specs.declared.fault.Fault.TheVariants.{NoDoor, NoPlace, OldName, DoorFull, NoneMissing, NoLink}
use Rattle.wire.specs.declared.fault.Refusal.{Refusal}
use Rattle.wire.specs.Faults.{refusal}
use Rattle.wire.specs.declared.script.Thing.{Thing}
use Rattle.wire.specs.declared.script.Thing.TheVariants.{Block, Word, Round, Show}
use Rattle.wire.specs.Script.{thing_read}

-- the state of the machine, and for each door the lowest name that it still takes
pub record Position : Type 0 where
  pub state : State
  pub fresh : ℕ → ℕ

abbrev pub begin : Net → Position
begin z = record { state = start z; fresh = λ d. 0 }

-- the fault of a block, the lowest number of several
abbrev pub parcel_fault : Net → Position → Parcel → Option Fault
parcel_fault z g b =
    cond (nat_le z.doors b.door) (Some (NoDoor b.door))
    (cond (nat_le z.places b.place) (Some (NoPlace b.place))
    (cond (nat_lt b.name (g.fresh b.door)) (Some (OldName b.name))
    (cond (nat_le 4096 (length (g.state.queue (z.links + b.door)))) (Some (DoorFull b.door)) None)))

-- no place is ever missing between rounds, so a word of a free place is always a fault
abbrev pub fault_of : Net → Position → Thing → Option Fault
fault_of z g (Block b) = parcel_fault z g b
fault_of z g (Word e) = Some (cond (nat_lt e z.links) (NoneMissing e) (NoLink e))
fault_of z g Round = None
fault_of z g Show = None

-- what a thing without a fault does
abbrev pub play_thing : Net → Thing → Position → Position
play_thing z (Block b) g = record { state = enter z b g.state; fresh = at b.door (b.name + 1) g.fresh }
play_thing z (Word e) g = g
play_thing z Round g = record { state = round z g.state; fresh = g.fresh }
play_thing z Show g = g

-- what the machine is told of it
unfoldable pub events : List Thing → List Event
events [] = []
events (Block b ∷ ts) = Enter b ∷ events ts
events (Word e ∷ ts) = events ts
events (Round ∷ ts) = Played ∷ events ts
events (Show ∷ ts) = events ts

-- Going through a script from its first byte: the things read so far had no fault, the next one begins at an offset, and this
-- is where the things have led.
pub data Comes (z : Net) (bs : List ℕ) : ℕ → List Thing → Position → Type 0 where
  begun : Comes z bs 0 [] (begin z)
  onward : {i j : ℕ} {ts : List Thing} {t : Thing} {g : Position} →
      Comes z bs i ts g → i < length bs → thing_read i (drop i bs) ≡ Ok (t, j) → fault_of z g t ≡ None →
      Comes z bs j (ts ++ (t ∷ [])) (play_thing z t g)

-- the refusal of the thing that was read at an offset, if it is refused
abbrev pub fault_at : ℕ → Option Fault → Option Refusal
fault_at i None = None
fault_at i (Some f) = Some (refusal f i)

abbrev pub stopped : Net → Position → ℕ → Result (Thing × ℕ) Refusal → Option Refusal
stopped z g i (Err x) = Some x
stopped z g i (Ok x) = fault_at i (fault_of z g x.0)
