-- Worked cases as rows of one table: cables, and what the definitions make of them. Assumes nothing.
use Rattle.std.specs.Prelude.{◌≡◌, ℕ, zero, suc, ◌+◌, Bool, true, false, not, ◌&&◌, List, [], ◌∷◌, map, ◌==◌}
use Rattle.std.specs.List.{range_with_len, AllByRecursion}
use Rattle.net.specs.declared.Cable.{Cable}
use Rattle.net.specs.declared.Came.{Came}
use Rattle.net.specs.declared.Entry.{Entry}
use Rattle.net.specs.declared.Entry.TheVariants.{Here, Link}
use Rattle.net.specs.Heads.{tail_of}
use Rattle.net.specs.Net.{Net, channels}
use Rattle.machine.specs.Round.{Event, Enter, Round, after}
use Rattle.machine.specs.Waits.{feeders as feedersOf, patience as patienceOf, wait as waitOf}
use Rattle.graph.specs.Cables.{graph_of}
use Rattle.graph.specs.Graph.{Graph}
use Rattle.graph.specs.Tree.{root as rootOf, level}
use Rattle.tree.specs.Legal.{goes_up}
use Rattle.table.specs.Laid.{net_for}
use Rattle.waits.specs.Laws.{Road}

-- the links over which a block goes from a door to a place, and its wait there with nothing before it
pub record Way : Type 0 where
  pub door : ℕ
  pub place : ℕ
  pub road : List ℕ
  pub wait : ℕ

-- a block that was handed over: its door, its place and the round
pub record Arrival : Type 0 where
  pub door : ℕ
  pub place : ℕ
  pub round : ℕ

-- A row. From cables and the size of stores: the root, each switch's level, which links go up, each link's rank, the table's row
-- for each channel, the feeders of each link, the patience of each channel, some ways; and from a script what came, with
-- whether no two neighbours of it, from the second on, are of one door.
pub record Case : Type 0 where
  pub switches : ℕ
  pub cables : List Cable
  pub store : ℕ
  pub root : ℕ
  pub levels : List ℕ
  pub ups : List Bool
  pub ranks : List ℕ
  pub table : List (List Entry)
  pub feeders : List ℕ
  pub patience : List ℕ
  pub ways : List Way
  pub script : List Event
  pub came : List Arrival
  pub in_turn : Bool

abbrev pub graph : Case → Graph
graph w = graph_of w.switches w.cables

abbrev pub net : Case → Net
net w = net_for (graph w) (rootOf (graph w)) w.store

-- what the table says, channel by channel and for each place
abbrev pub table_of : Net → List (List Entry)
table_of z = map (λ c. map (λ p. z.next c p) (range_with_len 0 z.places)) (range_with_len 0 (channels z))

abbrev pub Goes : Net → Way → Type 0
Goes z v = Road z v.place (z.links + v.door) v.road × (waitOf z 0 (z.links + v.door) v.place ≡ v.wait)

abbrev pub arrival : Came → Arrival
arrival k = record { door = k.block.door; place = k.block.place; round = k.round }

-- no two neighbours are the same, where d stands before the list
abbrev pub apart_from : ℕ → List ℕ → Bool
apart_from d [] = true
apart_from d (e ∷ es) = not (d == e) && apart_from e es

abbrev pub neighbours_differ : List ℕ → Bool
neighbours_differ [] = true
neighbours_differ (d ∷ ds) = apart_from d ds

abbrev pub taken_in_turn : List Arrival → Bool
taken_in_turn ks = neighbours_differ (tail_of (map (λ (k : Arrival). k.door) ks))

-- A row holds if the definitions make of its cables what it says.
pub record Holds (w : Case) : Type 0 where
  pub root : rootOf (graph w) ≡ w.root
  pub levels : map (λ s. level (graph w) (rootOf (graph w)) s) (range_with_len 0 w.switches) ≡ w.levels
  pub ups : map (λ k. goes_up (graph w) (level (graph w) (rootOf (graph w))) k) (range_with_len 0 (net w).links) ≡ w.ups
  pub ranks : map (λ e. (net w).rank e) (range_with_len 0 (net w).links) ≡ w.ranks
  pub table : table_of (net w) ≡ w.table
  pub feeders : map (λ e. feedersOf (net w) e (channels (net w))) (range_with_len 0 (net w).links) ≡ w.feeders
  pub patience : map (λ c. patienceOf (net w) c) (range_with_len 0 (channels (net w))) ≡ w.patience
  pub ways : AllByRecursion (Goes (net w)) w.ways
  pub came : map arrival (after (net w) w.script).came ≡ w.came
  pub in_turn : taken_in_turn (map arrival (after (net w) w.script).came) ≡ w.in_turn

abbrev pub joins : ℕ → ℕ → Cable
joins a b = record { a = a; b = b }

abbrev pub way : ℕ → ℕ → List ℕ → ℕ → Way
way d p ks t = record { door = d; place = p; road = ks; wait = t }

abbrev pub sends : ℕ → ℕ → Event
sends d p = Enter (record { door = d; place = p; name = 0 })

abbrev pub comes : ℕ → ℕ → ℕ → Arrival
comes d p r = record { door = d; place = p; round = r }

-- One switch and no cable: a block for its own door's place is handed over in the next round after those before it.
abbrev pub one_switch : Case
one_switch = record {
  switches = 1;
  cables = [];
  store = 2;
  root = 0;
  levels = 0 ∷ [];
  ups = [];
  ranks = [];
  table = (Here ∷ []) ∷ [];
  feeders = [];
  patience = 1 ∷ [];
  ways = way 0 0 [] 1 ∷ [];
  script = sends 0 0 ∷ sends 0 0 ∷ sends 0 0 ∷ Round ∷ Round ∷ Round ∷ [];
  came = comes 0 0 1 ∷ comes 0 0 2 ∷ comes 0 0 3 ∷ [];
  in_turn = false;
}

-- Two switches and one cable: link 0 goes down, link 1 up; doors are channels 2 and 3.
abbrev pub two_switches : Case
two_switches = record {
  switches = 2;
  cables = joins 0 1 ∷ [];
  store = 2;
  root = 0;
  levels = 0 ∷ 1 ∷ [];
  ups = false ∷ true ∷ [];
  ranks = 10 ∷ 6 ∷ [];
  table =
      (Here ∷ Here ∷ []) ∷ (Here ∷ Here ∷ []) ∷
      (Here ∷ Link 0 ∷ []) ∷ (Link 1 ∷ Here ∷ []) ∷ [];
  feeders = 1 ∷ 1 ∷ [];
  patience = 1 ∷ 1 ∷ 1 ∷ 1 ∷ [];
  ways = way 0 1 (0 ∷ []) 3 ∷ way 1 0 (1 ∷ []) 3 ∷ way 0 0 [] 1 ∷ [];
  script = sends 0 1 ∷ sends 0 0 ∷ Round ∷ Round ∷ [];
  came = comes 0 1 2 ∷ comes 0 0 2 ∷ [];
  in_turn = true;
}

-- The same with a second cable: only the lower is used, and no channel feeds links 2 and 3.
abbrev pub two_cables : Case
two_cables = record {
  switches = 2;
  cables = joins 0 1 ∷ joins 0 1 ∷ [];
  store = 2;
  root = 0;
  levels = 0 ∷ 1 ∷ [];
  ups = false ∷ true ∷ false ∷ true ∷ [];
  ranks = 10 ∷ 6 ∷ 10 ∷ 6 ∷ [];
  table =
      (Here ∷ Here ∷ []) ∷ (Here ∷ Here ∷ []) ∷ (Here ∷ Here ∷ []) ∷ (Here ∷ Here ∷ []) ∷
      (Here ∷ Link 0 ∷ []) ∷ (Link 1 ∷ Here ∷ []) ∷ [];
  feeders = 1 ∷ 1 ∷ 0 ∷ 0 ∷ [];
  patience = 1 ∷ 1 ∷ 1 ∷ 1 ∷ 1 ∷ 1 ∷ [];
  ways = way 0 1 (0 ∷ []) 3 ∷ way 1 0 (1 ∷ []) 3 ∷ [];
  script = sends 0 1 ∷ sends 0 1 ∷ Round ∷ Round ∷ Round ∷ [];
  came = comes 0 1 2 ∷ comes 0 1 3 ∷ [];
  in_turn = true;
}

-- k rounds, and before each of them doors 1 and 2 each get a block for place 3
abbrev pub pressing : ℕ → List Event
pressing zero = []
pressing (suc k) = sends 1 3 ∷ sends 2 3 ∷ Round ∷ pressing k

-- A star: leaves 1, 2 and 3 round switch 0. Each link down has three feeders. Two leaves that send without end to the third are
-- served in turn.
abbrev pub star : Case
star = record {
  switches = 4;
  cables = joins 1 0 ∷ joins 2 0 ∷ joins 3 0 ∷ [];
  store = 2;
  root = 0;
  levels = 0 ∷ 1 ∷ 1 ∷ 1 ∷ [];
  ups = true ∷ false ∷ true ∷ false ∷ true ∷ false ∷ [];
  ranks = 20 ∷ 26 ∷ 20 ∷ 27 ∷ 20 ∷ 28 ∷ [];
  table =
      (Here ∷ Here ∷ Link 3 ∷ Link 5 ∷ []) ∷ (Here ∷ Here ∷ Here ∷ Here ∷ []) ∷
      (Here ∷ Link 1 ∷ Here ∷ Link 5 ∷ []) ∷ (Here ∷ Here ∷ Here ∷ Here ∷ []) ∷
      (Here ∷ Link 1 ∷ Link 3 ∷ Here ∷ []) ∷ (Here ∷ Here ∷ Here ∷ Here ∷ []) ∷
      (Here ∷ Link 1 ∷ Link 3 ∷ Link 5 ∷ []) ∷ (Link 0 ∷ Here ∷ Link 0 ∷ Link 0 ∷ []) ∷
      (Link 2 ∷ Link 2 ∷ Here ∷ Link 2 ∷ []) ∷ (Link 4 ∷ Link 4 ∷ Link 4 ∷ Here ∷ []) ∷ [];
  feeders = 1 ∷ 3 ∷ 1 ∷ 3 ∷ 1 ∷ 3 ∷ [];
  patience = 3 ∷ 1 ∷ 3 ∷ 1 ∷ 3 ∷ 1 ∷ 3 ∷ 3 ∷ 3 ∷ 3 ∷ [];
  ways = way 1 2 (0 ∷ 3 ∷ []) 11 ∷ way 0 3 (5 ∷ []) 5 ∷ way 1 0 (0 ∷ []) 9 ∷ [];
  script = pressing 12;
  came =
      comes 1 3 3 ∷ comes 2 3 4 ∷ comes 1 3 5 ∷ comes 2 3 6 ∷ comes 1 3 7 ∷
      comes 2 3 8 ∷ comes 1 3 9 ∷ comes 2 3 10 ∷ comes 1 3 11 ∷ comes 2 3 12 ∷ [];
  in_turn = true;
}

-- A ring of four: from 1 to 3 the road goes up by link 1 to switch 0 and down by link 7, since by switch 2 it would go down and
-- then up.
abbrev pub ring_of_four : Case
ring_of_four = record {
  switches = 4;
  cables = joins 0 1 ∷ joins 1 2 ∷ joins 2 3 ∷ joins 3 0 ∷ [];
  store = 1;
  root = 0;
  levels = 0 ∷ 1 ∷ 2 ∷ 1 ∷ [];
  ups = false ∷ true ∷ false ∷ true ∷ true ∷ false ∷ true ∷ false ∷ [];
  ranks = 26 ∷ 20 ∷ 31 ∷ 15 ∷ 13 ∷ 31 ∷ 20 ∷ 28 ∷ [];
  table =
      (Here ∷ Here ∷ Link 2 ∷ Here ∷ []) ∷ (Here ∷ Here ∷ Here ∷ Link 7 ∷ []) ∷
      (Here ∷ Here ∷ Here ∷ Here ∷ []) ∷ (Link 1 ∷ Here ∷ Here ∷ Here ∷ []) ∷
      (Here ∷ Here ∷ Here ∷ Here ∷ []) ∷ (Here ∷ Here ∷ Here ∷ Here ∷ []) ∷
      (Here ∷ Link 0 ∷ Here ∷ Here ∷ []) ∷ (Here ∷ Here ∷ Here ∷ Here ∷ []) ∷
      (Here ∷ Link 0 ∷ Link 0 ∷ Link 7 ∷ []) ∷ (Link 1 ∷ Here ∷ Link 2 ∷ Link 1 ∷ []) ∷
      (Link 3 ∷ Link 3 ∷ Here ∷ Link 4 ∷ []) ∷ (Link 6 ∷ Link 6 ∷ Link 5 ∷ Here ∷ []) ∷ [];
  feeders = 2 ∷ 2 ∷ 2 ∷ 1 ∷ 1 ∷ 1 ∷ 1 ∷ 2 ∷ [];
  patience = 2 ∷ 2 ∷ 1 ∷ 4 ∷ 1 ∷ 1 ∷ 4 ∷ 1 ∷ 4 ∷ 4 ∷ 4 ∷ 4 ∷ [];
  ways = way 1 3 (1 ∷ 7 ∷ []) 7 ∷ way 3 1 (6 ∷ 0 ∷ []) 10 ∷ way 0 2 (0 ∷ 2 ∷ []) 7 ∷ way 2 0 (3 ∷ 1 ∷ []) 10 ∷ [];
  script = sends 1 3 ∷ sends 3 1 ∷ Round ∷ Round ∷ Round ∷ [];
  came = comes 3 1 3 ∷ comes 1 3 3 ∷ [];
  in_turn = true;
}

abbrev pub cases : List Case
cases = one_switch ∷ two_switches ∷ two_cables ∷ star ∷ ring_of_four ∷ []

abbrev pub CasesHold : Type 0
CasesHold = AllByRecursion Holds cases
