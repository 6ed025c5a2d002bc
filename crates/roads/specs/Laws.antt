-- What is proved of shortest roads, over any states. Assumes nothing.
use Rattle.std.specs.Prelude.{◌≡◌, ℕ, suc, ◌<◌, ◌≤◌, Bool, true, false, List, ◌∷◌, length}
use Rattle.roads.specs.Numbers.{least, Least}
use Rattle.roads.specs.Roads.{Moves, Road, shortest, first}

-- `least` is the least that passes, and nothing else is
pub record LeastIsLeast : Type 0 where
  pub law : (f : ℕ → Bool) (n : ℕ) → Least f n (least f n)
  pub one : (f : ℕ → Bool) (n r : ℕ) → Least f n r → r ≡ least f n

-- The four laws of shortest roads: none is shorter, one is so short, its first link is `first`, and no shortest road begins with a lower one.
pub record ShortestRoads (S : Type 0) : Type 0 where
  pub none_shorter : (m : Moves S) (goal : S → Bool) (most : ℕ) (x : S) (ks : List ℕ) → Road m goal x ks → shortest m goal most x ≤ length ks
  pub one_so_short :
      (m : Moves S) (goal : S → Bool) (most : ℕ) (x : S) → shortest m goal most x < most →
      (ks : List ℕ) × Road m goal x ks × (length ks ≡ shortest m goal most x)
  pub first_is :
      (m : Moves S) (goal : S → Bool) (most : ℕ) (x : S) → shortest m goal most x < most → goal x ≡ false →
      (first m goal most x < m.links) × (m.may x (first m goal most x) ≡ true) ×
      (suc (shortest m goal most (m.after x (first m goal most x))) ≡ shortest m goal most x)
  pub first_lowest :
      (m : Moves S) (goal : S → Bool) (most : ℕ) (x : S) (k : ℕ) (ks : List ℕ) → Road m goal x (k ∷ ks) →
      length (k ∷ ks) ≡ shortest m goal most x → shortest m goal most x < most → first m goal most x ≤ k

-- Among n states, where there is any road there is one of fewer than n links.
abbrev pub EveryRoadIsSoon : Type 0
EveryRoadIsSoon =
    (m : Moves ℕ) (goal : ℕ → Bool) (n : ℕ) → ((x k : ℕ) → k < m.links → m.after x k < n) →
    (x : ℕ) (ks : List ℕ) → x < n → Road m goal x ks → shortest m goal n x < n
