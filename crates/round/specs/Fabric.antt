-- The net that a fabric runs, and the machine's state that it stands for. Assumes nothing.
use Rattle.std.specs.Prelude.{ℕ, pred, List, [], ◌∷◌, ◌++◌, map, Some, None, vec_items, Option, slice_index, slice_index_or}
use Rattle.std.specs.VecDeque.{deque_items}
use Rattle.net.specs.declared.Block.{Block}
use Rattle.net.specs.declared.Came.{Came}
use Rattle.net.specs.Layout.{net_of}
use Rattle.net.specs.Net.{Net}
use Rattle.machine.specs.Round.{State, at, following, leave}
use Rattle.round.specs.Link.{queue_of, free_of, turn_of}
use Rattle.round.specs.declared.link.Link.{Link}
use Rattle.round.specs.declared.fabric.Fabric.{Fabric}

-- the net of its plan
abbrev pub net_at : Fabric → Net
net_at f = net_of f.plan.layout

-- what waits at its doors
abbrev pub waiting : Fabric → List (List Block)
waiting f = map deque_items (vec_items f.doors)

-- the state whose parts stand in lists: in each channel the links' stores, then the doors
abbrev pub listed : List Link → List (List Block) → List Came → ℕ → State
listed ls ds cs n = record {
  queue = λ c. slice_index_or (map queue_of ls ++ ds) c [];
  free = λ e. slice_index (map free_of ls) e;
  turn = λ e. slice_index (map turn_of ls) e;
  came = cs;
  round = n;
}

abbrev pub state_of : Fabric → State
state_of f = listed (vec_items f.links) (waiting f) (vec_items f.came) f.rounds

-- what is left when a first block was taken from channel c, if there was one
abbrev pub leaves : Net → ℕ → Option Block → State → State
leaves z c None s = s
leaves z c (Some b) s = leave z c s

-- a block that channel c sent over link e comes into its store; the turn is then at the channel after c
abbrev pub arrives : Net → ℕ → ℕ → Block → State → State
arrives z e c b s = record {
  queue = at e (s.queue e ++ (b ∷ [])) s.queue;
  free = at e (pred (s.free e)) s.free;
  turn = at e (following z c) s.turn;
  came = s.came;
  round = s.round;
}
