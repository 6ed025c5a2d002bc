-- Above, up and down by the levels of a tree; the number of a switch and the rank of a link; legal roads. Assumes nothing.
use Rattle.std.specs.Prelude.{ℕ, ◌+◌, ◌-◌, ◌*◌, Bool, cond, not, ◌&&◌, ◌||◌, ◌==◌, nat_lt}
use Rattle.roads.specs.Roads.{Moves}
use Rattle.graph.specs.Graph.{Graph}

-- a is above b if its level is lower, or equal and its number lower
abbrev pub above : (ℕ → ℕ) → ℕ → ℕ → Bool
above level a b = nat_lt (level a) (level b) || (level a == level b && nat_lt a b)

-- a link goes up if it ends above where it begins, else down
abbrev pub goes_up : Graph → (ℕ → ℕ) → ℕ → Bool
goes_up g level k = above level (g.to k) (g.from k)

abbrev pub number : Graph → (ℕ → ℕ) → ℕ → ℕ
number g level s = level s * g.n + s

-- the rank of a link, where `up` says which links go up
abbrev pub rank_of : Graph → (ℕ → ℕ) → (ℕ → Bool) → ℕ → ℕ
rank_of g level up k =
    cond (up k) ((g.n * g.n + g.n) - number g level (g.to k)) (g.n * g.n + g.n + 1 + number g level (g.to k))

-- A state is whether links up may still be taken, and the switch at which one stands: no link up follows one down.
abbrev pub legal : Graph → (ℕ → Bool) → Moves (Bool × ℕ)
legal g up = record {
  links = g.links;
  may = λ x k. (g.from k == x.1) && (x.0 || not (up k));
  after = λ x k. (up k, g.to k);
}

-- the test for having come to t
abbrev pub stands : ℕ → Bool × ℕ → Bool
stands t x = x.1 == t
