-- Distance, root and levels of a graph. Assumes nothing.
use Rattle.std.specs.Prelude.{ℕ, ◌<◌, Bool, List, ◌==◌, nat_le}
use Rattle.roads.specs.Numbers.{least, every, greatest}
use Rattle.roads.specs.Roads.{Moves, Road, shortest}
use Rattle.graph.specs.Graph.{Graph}

-- a state is the switch at which one stands, and every link from there may be taken
abbrev pub plain : Graph → Moves ℕ
plain g = record { links = g.links; may = λ s k. (g.from k == s); after = λ s k. g.to k }

-- the test for having come to t
abbrev pub at : ℕ → ℕ → Bool
at t s = s == t

-- the least number of cables from a to b, or n if there is no walk
abbrev pub distance : Graph → ℕ → ℕ → ℕ
distance g a b = shortest (plain g) (at b) g.n a

-- the greatest distance from s to any switch
abbrev pub reach : Graph → ℕ → ℕ
reach g s = greatest (λ t. distance g s t) g.n

-- the switch whose greatest distance is least, the lowest number among equals
abbrev pub root : Graph → ℕ
root g = least (λ s. every (λ t. nat_le (reach g s) (reach g t)) g.n) g.n

-- every switch can be reached from every other
abbrev pub Joined : Graph → Type 0
Joined g = (a b : ℕ) → a < g.n → b < g.n → distance g a b < g.n

-- the lowest switch that cannot be reached from switch 0
pub record Lost (g : Graph) (s : ℕ) : Type 0 where
  pub below : s < g.n
  pub lost : (ks : List ℕ) → Road (plain g) (at s) 0 ks → ⊥
  pub lower : (t : ℕ) → t < s → distance g 0 t < g.n

-- the level of a switch in the tree with root r
abbrev pub level : Graph → ℕ → ℕ → ℕ
level g r s = distance g s r
