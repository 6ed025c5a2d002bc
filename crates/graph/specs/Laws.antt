-- What distance and root mean, in words of walks. Assumes nothing.
use Rattle.std.specs.Prelude.{◌≡◌, ℕ, ◌<◌, ◌≤◌, List, length}
use Rattle.roads.specs.Roads.{Road}
use Rattle.graph.specs.Graph.{Graph}
use Rattle.graph.specs.Tree.{plain, at, distance, reach, root, Joined}

-- ks are the links of a walk from a to b
abbrev pub Walk : Graph → ℕ → ℕ → List ℕ → Type 0
Walk g a b ks = Road (plain g) (at b) a ks

abbrev pub DistanceIsShortest : Type 0
DistanceIsShortest =
    (g : Graph) → Joined g → (a b : ℕ) → a < g.n → b < g.n →
    ((ks : List ℕ) × Walk g a b ks × (length ks ≡ distance g a b)) × ((ks : List ℕ) → Walk g a b ks → distance g a b ≤ length ks)

-- r is the switch whose greatest distance is least, the lowest number among equals
pub record Central (g : Graph) (r : ℕ) : Type 0 where
  pub below : r < g.n
  pub least : (t : ℕ) → t < g.n → reach g r ≤ reach g t
  pub lowest : (t : ℕ) → t < r → reach g r < reach g t

abbrev pub RootIsCentral : Type 0
RootIsCentral = (g : Graph) → 0 < g.n → Central g (root g)
