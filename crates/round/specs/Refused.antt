-- When a call is refused, and with what. Assumes nothing.
use Rattle.std.specs.Prelude.{◌≡◌, ◌+◌, ◌^◌, ◌<◌, ◌≤◌, length}
use Rattle.net.specs.declared.Block.{Block}
use Rattle.net.specs.Net.{Net}
use Rattle.machine.specs.Round.{State}
use Rattle.round.specs.declared.error.Refusal.{Refusal}
use Rattle.round.specs.declared.error.Refusal.TheVariants.{NoDoor, NoPlace, DoorFull, Memory, NoMoreRounds}

-- at the start only memory can be wanting
abbrev pub StartRefuses : Refusal → Type 0
StartRefuses e = e ≡ Memory

-- a block whose door and place are there, at whose door fewer than 4,096 wait
abbrev pub Welcome : Net → State → Block → Type 0
Welcome z s b = (b.door < z.doors) × (b.place < z.places) × (length (s.queue (z.links + b.door)) < 4096)

-- why a block is not welcome, whatever memory there is; of several causes the first in this order is told
abbrev pub Bars : Net → State → Block → Refusal → Type 0
Bars z s b NoDoor = z.doors ≤ b.door
Bars z s b NoPlace = (b.door < z.doors) × (z.places ≤ b.place)
Bars z s b DoorFull = (b.door < z.doors) × (b.place < z.places) × (4096 ≤ length (s.queue (z.links + b.door)))
Bars z s b Memory = ⊥
Bars z s b NoMoreRounds = ⊥

-- why a block is not let in: it is not welcome, or where all is right memory is wanting
abbrev pub BlockRefuses : Net → State → Block → Refusal → Type 0
BlockRefuses z s b NoDoor = Bars z s b NoDoor
BlockRefuses z s b NoPlace = Bars z s b NoPlace
BlockRefuses z s b DoorFull = Bars z s b DoorFull
BlockRefuses z s b Memory = Welcome z s b
BlockRefuses z s b NoMoreRounds = Bars z s b NoMoreRounds

-- a round is refused where its number does not fit 64 bits, or for want of memory
abbrev pub RoundRefuses : State → Refusal → Type 0
RoundRefuses s NoDoor = ⊥
RoundRefuses s NoPlace = ⊥
RoundRefuses s DoorFull = ⊥
RoundRefuses s Memory = s.round + 1 < 2 ^ 64
RoundRefuses s NoMoreRounds = s.round + 1 ≡ 2 ^ 64
