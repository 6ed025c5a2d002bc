-- Roads over any states: a link may be taken from a state and leads to another; how far it is to a goal, and the first link of a shortest road. Assumes nothing.
use Rattle.std.specs.Prelude.{◌≡◌, ℕ, zero, suc, pred, ◌<◌, Bool, true, ◌&&◌, ◌||◌, List, [], ◌∷◌}
use Rattle.roads.specs.Numbers.{least, some}

-- links: how many; may x k: link k may be taken from state x; after x k: the state that it leads to
pub record Moves (S : Type 0) : Type 0 where
  pub links : ℕ
  pub may : S → ℕ → Bool
  pub after : S → ℕ → S

-- a road from x is the list of its links, and ends at a state that passes `goal`
pub data Road {S : Type 0} (m : Moves S) (goal : S → Bool) : S → List ℕ → Type 0 where
  there : {x : S} → goal x ≡ true → Road m goal x []
  along : {x : S} {k : ℕ} {ks : List ℕ} → k < m.links → m.may x k ≡ true → Road m goal (m.after x k) ks → Road m goal x (k ∷ ks)

-- there is a road of at most so many links
unfoldable pub within : {S : Type 0} → Moves S → (S → Bool) → ℕ → S → Bool
within m goal zero x = goal x
within m goal (suc n) x = goal x || some (λ k. let r = within m goal n (m.after x k) in m.may x k && r) m.links

-- the number of links of a shortest road, where it is less than `most`, else `most`
unfoldable pub shortest : {S : Type 0} → Moves S → (S → Bool) → ℕ → S → ℕ
shortest m goal most x = least (λ n. within m goal n x) most

-- the lowest first link of the shortest roads
unfoldable pub first : {S : Type 0} → Moves S → (S → Bool) → ℕ → S → ℕ
first m goal most x = least (λ k. let r = within m goal (pred (shortest m goal most x)) (m.after x k) in m.may x k && r) m.links
