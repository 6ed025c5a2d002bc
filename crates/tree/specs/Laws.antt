-- What is proved of a tree: every switch but the root has a link to one a level higher, and ranks rise along legal roads. Assumes nothing.
use Rattle.std.specs.Prelude.{◌≡◌, ℕ, suc, ◌+◌, ◌<◌, true, List, length, ◌≢◌}
use Rattle.roads.specs.Roads.{Road}
use Rattle.graph.specs.Graph.{Graph, TwoWay}
use Rattle.graph.specs.Tree.{Joined, level}
use Rattle.tree.specs.Legal.{goes_up, rank_of, legal, stands}

-- what every accepted list of cables has
pub record Sound (g : Graph) : Type 0 where
  pub from : (k : ℕ) → k < g.links → g.from k < g.n
  pub to : (k : ℕ) → k < g.links → g.to k < g.n
  pub apart : (k : ℕ) → k < g.links → g.from k ≢ g.to k
  pub two : TwoWay g
  pub joined : Joined g

-- every switch but the root has a link to one a level higher
abbrev pub OneHigher : Type 0
OneHigher =
    (g : Graph) → Joined g → (r s : ℕ) → r < g.n → s < g.n → (s ≢ r) →
    (k : ℕ) × (k < g.links) × (g.from k ≡ s) × (suc (level g r (g.to k)) ≡ level g r s)

-- along legal roads ranks rise: from one link to a next, and from a door, whose rank is 0, to any
abbrev pub RanksRise : Type 0
RanksRise =
    (g : Graph) → Sound g → (r : ℕ) → r < g.n → (k : ℕ) → k < g.links →
    (0 < rank_of g (level g r) (goes_up g (level g r)) k) ×
    ((d : ℕ) → d < g.links → (legal g (goes_up g (level g r))).may (goes_up g (level g r) d, g.to d) k ≡ true →
    rank_of g (level g r) (goes_up g (level g r)) d < rank_of g (level g r) (goes_up g (level g r)) k)

-- from every switch a legal road of at most two levels' length leads to every other
abbrev pub LegalRoads : Type 0
LegalRoads =
    (g : Graph) → Sound g → (r : ℕ) → r < g.n → (s p : ℕ) → s < g.n → p < g.n →
    (ks : List ℕ) × Road (legal g (goes_up g (level g r))) (stands p) (true, s) ks × (length ks ≡ level g r s + level g r p)
