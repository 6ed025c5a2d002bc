-- What the code's sets hold, layer by layer. Assumes nothing.
use Rattle.std.specs.Prelude.{◌≡◌, ℕ, ◌<◌, ◌≤◌, Bool, ◌&&◌, ◌||◌, List, length, Option, MatchOption, ◌==◌, ◌≢◌, slice_index}
use Rattle.roads.specs.Numbers.{Least, some}
use Rattle.roads.specs.Roads.{within}
use Rattle.graph.specs.Sets.{has}
use Rattle.graph.specs.Graph.{Graph, Ends, TwoWay}
use Rattle.graph.specs.Tree.{plain, at, level}

-- the set of switch s has those switches that are at most j cables away from s
abbrev pub Reached : Graph → ℕ → List ℕ → Type 0
Reached g j sets = (s t : ℕ) → s < g.n → t < g.n → has (slice_index sets s) t ≡ within (plain g) (at t) j s

-- links below k have been looked at: each has added to the set of where it begins the old set of where it ends
abbrev pub Added : Graph → List ℕ → ℕ → List ℕ → Type 0
Added g old k sets = (s t : ℕ) → s < length old → t < 64 →
    has (slice_index sets s) t ≡ (has (slice_index old s) t || some (λ i. (g.from i == s) && has (slice_index old (g.to i)) t) k)

-- the least number below n that passes f, if one does
abbrev pub Finds : (ℕ → Bool) → ℕ → Option ℕ → Type 0
Finds f n r = MatchOption r (Least f n n) (λ k. (k < n) × Least f n k)

-- everything that is known of the links of a sound list of cables
pub record Linked (g : Graph) : Type 0 where
  pub some : 0 < g.n
  pub few : g.n ≤ 64
  pub short : g.links ≤ 256
  pub ends : Ends g
  pub apart : (k : ℕ) → k < g.links → g.from k ≢ g.to k
  pub two : TwoWay g

-- the list has each switch's level in the tree with root r
pub record Levelled (g : Graph) (r : ℕ) (ls : List ℕ) : Type 0 where
  pub size : length ls ≡ g.n
  pub each : (s : ℕ) → s < g.n → slice_index ls s ≡ level g r s
