-- What the code's hall holds, and what laying one answers. Assumes nothing.
use Rattle.std.specs.Prelude.{◌≡◌, ℕ, ◌+◌, ◌<◌, List, Ok, Err}
use Rattle.net.specs.Layout.{net_of}
use Rattle.net.specs.Net.{Good, Leads, Net}
use Rattle.net.specs.declared.plan.Plan.{Plan}
use Rattle.graph.specs.Graph.{Graph}
use Rattle.graph.specs.Tree.{Joined, Lost, root}
use Rattle.tree.specs.declared.planted.Tree.{Tree}
use Rattle.table.specs.Promised.{graph_in}
use Rattle.table.specs.Laid.{net_for}
use Rattle.waits.specs.Working.{Exceeds, Within}
use Rattle.wire.specs.declared.fault.Fault.TheVariants.{Apart, TooLong}
use Rattle.wire.specs.declared.fault.WireError.{WireError}
use Rattle.wire.specs.declared.fault.WireError.TheVariants.{Refused, Memory}
use Rattle.wire.specs.Faults.{refusal}
use Rattle.wire.specs.Cables.{Cables}
use Rattle.wire.specs.Listed.{listed}
use Rattle.plan.specs.declared.hall.Hall.{Hall}
use Rattle.plan.specs.Halls.{graph_for, hall_net, read_hall}

-- the tree of a list of cables, with the prescribed root; all switches are joined
pub record Grown (c : Cables) (t : Tree) : Type 0 where
  pub joined : Joined (graph_for c)
  pub graph : graph_in t ≡ graph_for c
  pub root : t.root ≡ root (graph_for c)

-- why there is none: a switch cannot be reached
abbrev pub Severed : Graph → ℕ → WireError → Type 0
Severed g end (Refused x) = (s : ℕ) × Lost g s × (x ≡ refusal (Apart s) end)
Severed g end Memory = Unit {0}

-- what is told of bounds that are too long
abbrev pub Late : Net → ℕ → WireError → Type 0
Late z end (Refused x) = Exceeds z × (x ≡ refusal TooLong end)
Late z end Memory = Unit {0}

-- a net that serves: ranks rise in it, and it leads the blocks of every door to every place
pub record Serving (z : Net) : Type 0 where
  pub good : Good z
  pub leads : (s p : ℕ) → s < z.doors → p < z.places → Leads z p (z.links + s)

-- the plan of a tree's net
pub record Drawn (t : Tree) (m : ℕ) (p : Plan) : Type 0 where
  pub net : net_of p.layout ≡ net_for (graph_in t) t.root m
  pub serves : Serving (net_of p.layout)

-- the hall of a list of cables: what its tree and its bounds hold besides, their own fields say
pub record Built (c : Cables) (h : Hall) : Type 0 where
  pub list : listed h.list ≡ c
  pub tree : Grown c h.tree
  pub net : net_of h.bounds.plan.layout ≡ hall_net c
  pub serves : Serving (hall_net c)
  pub soon : Within (hall_net c)

-- why a file of cables is refused: the definition's fault; want of memory says nothing of the file
abbrev pub Refuses : List ℕ → WireError → Type 0
Refuses bs (Refused x) = read_hall bs ≡ Err x
Refuses bs Memory = Unit {0}

-- the hall that is laid of a file of cables: the definition's list, with its tree, table and waits
abbrev pub Lays : List ℕ → Hall → Type 0
Lays bs h = (c : Cables) × (read_hall bs ≡ Ok c) × Built c h
