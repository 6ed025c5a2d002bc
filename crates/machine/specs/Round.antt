-- The state of a net, and what happens in a round. Assumes nothing.
use Rattle.std.specs.Prelude.{ℕ, zero, suc, pred, ◌+◌, ◌<◌, Bool, false, cond, List, [], ◌∷◌, ◌++◌, Some, None, Option, ◌==◌, nat_lt}
use mathlib.Core.List.{Memᴰ}
use Rattle.net.specs.declared.Block.{Block}
use Rattle.net.specs.declared.Came.{Came}
use Rattle.net.specs.Heads.{tail_of}
use Rattle.net.specs.Net.{Net, channels, is_here, is_to}
use Rattle.net.specs.Order.{serving}

-- queue: what stands in a channel, the oldest first (what waits at a door is outside, but a queue all the same);
-- free: the credits of a link, counted at its near end; turn: the channel from which a link looks round next;
-- came: what was handed over, the latest last; round: rounds played.
pub record State : Type 0 where
  pub queue : ℕ → List Block
  pub free : ℕ → ℕ
  pub turn : ℕ → ℕ
  pub came : List Came
  pub round : ℕ

abbrev pub start : Net → State
start z = record { queue = λ c. []; free = λ c. cond (nat_lt c z.links) z.store 0; turn = λ c. 0; came = []; round = 0 }

abbrev pub at : {A : Type 0} → ℕ → A → (ℕ → A) → ℕ → A
at i a f j = cond (j == i) a (f j)

abbrev pub firsts : {A : Type 0} → List A → List A
firsts [] = []
firsts (x ∷ xs) = x ∷ []

-- the channel after c, and 0 after the last
abbrev pub following : Net → ℕ → ℕ
following z c = cond (nat_lt (c + 1) (channels z)) (c + 1) 0

-- a block from outside is put behind what waits at its door
abbrev pub enter : Net → Block → State → State
enter z b s = record s { queue = at (z.links + b.door) (s.queue (z.links + b.door) ++ (b ∷ [])) s.queue }

-- the first block leaves channel c; if c is a link, the word that a place is free comes to its near end at once
abbrev pub leave : Net → ℕ → State → State
leave z c s = record s {
  queue = at c (tail_of (s.queue c)) s.queue;
  free = cond (nat_lt c z.links) (at c (s.free c + 1) s.free) s.free;
}

-- the first block of channel c has come
abbrev pub comes : Net → ℕ → List Block → Bool
comes z c [] = false
comes z c (b ∷ bs) = is_here (z.next c b.place)

-- the first block of channel c wants to go to link e
abbrev pub wants : Net → ℕ → ℕ → List Block → Bool
wants z e c [] = false
wants z e c (b ∷ bs) = is_to e (z.next c b.place)

abbrev pub noted : ℕ → ℕ → List Block → List Came
noted c r [] = []
noted c r (b ∷ bs) = record { block = b; channel = c; round = r } ∷ []

-- channel c hands over its first block
abbrev pub deliver : Net → ℕ → State → State
deliver z c s = record (leave z c s) { came = s.came ++ noted c s.round (s.queue c) }

abbrev pub handed_over : Net → ℕ → State → State
handed_over z c s = cond (comes z c (s.queue c)) (deliver z c s) s

-- channels 0 to c - 1, in rising number, each hand over their first block if it has come
unfoldable pub all_handed : Net → ℕ → State → State
all_handed z zero s = s
all_handed z (suc c) s = handed_over z c (all_handed z c s)

-- the first of channels c, c + 1, .. (k of them, beginning again at 0 after the last) whose first block wants to go to e
unfoldable pub look : Net → ℕ → (ℕ → List Block) → ℕ → ℕ → Option ℕ
look z e q c zero = None
look z e q c (suc k) = cond (wants z e c (q c)) (Some c) (look z e q (following z c) k)

-- the first block of c goes over link e into its store; the turn is then at the channel after c
abbrev pub move : Net → ℕ → ℕ → State → State
move z e c s = let t = leave z c s in record t {
  queue = at e (t.queue e ++ firsts (s.queue c)) t.queue;
  free = at e (pred (t.free e)) t.free;
  turn = at e (following z c) s.turn;
}

abbrev pub take : Net → ℕ → Option ℕ → State → State
take z e None s = s
take z e (Some c) s = move z e c s

-- link e takes one block if its credits say that there is a place
abbrev pub serve : Net → ℕ → State → State
serve z e s = cond (nat_lt 0 (s.free e)) (take z e (look z e s.queue (s.turn e) (channels z)) s) s

unfoldable pub all_served : Net → List ℕ → State → State
all_served z [] s = s
all_served z (e ∷ es) s = all_served z es (serve z e s)

abbrev pub counted : State → State
counted s = record s { round = s.round + 1 }

abbrev pub round : Net → State → State
round z s = all_served z (serving z) (all_handed z (channels z) (counted s))

-- What a script says: a block is let in, or a round is played.
pub data Event : Type 0 where
  Enter : (b : Block) → Event
  Round : Event

abbrev pub step : Net → Event → State → State
step z (Enter b) s = enter z b s
step z Round s = round z s

unfoldable pub play : Net → List Event → State → State
play z [] s = s
play z (v ∷ vs) s = play z vs (step z v s)

-- the state after a script, from the empty net
abbrev pub after : Net → List Event → State
after z vs = play z vs (start z)

-- blocks are let in only at doors that are there, for places that are there
abbrev pub Orderly : Net → List Event → Type 0
Orderly z vs = (b : Block) → Memᴰ (Enter b) vs → (b.door < z.doors) × (b.place < z.places)
