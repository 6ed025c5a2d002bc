-- Where a link goes into the order of serving: its position, and what stands on either side of it.
use Rattle.std.proofs.Common.{◌≡◌, ℕ, ◌<◌, ◌≤◌, not, ltb, List, [], ◌∷◌, length, get_or, refl, ap, ⊎_elim, one-add}
use Rattle.std.specs.List.{insert}
use Rattle.std.proofs.lemmas.Bool.{cases_lt, lt-ltb, le-ltb, ltb-true, ltb-false}
use Rattle.std.proofs.lemmas.List.Sums.{prefix_len-le-length, fails_before_first, passes_at_first}
use Rattle.net.specs.Order.{insert_by}
use Rattle.net.specs.Position.{position}

pub position_fits : (r : ℕ → ℕ) (e : ℕ) (xs : List ℕ) → position r e xs ≤ length xs
position_fits r e xs = prefix_len-le-length (λ x. not (ltb (r x) (r e))) xs

-- to insert is to put in at the position
pub insert_at : (r : ℕ → ℕ) (e : ℕ) (xs : List ℕ) → insert_by r e xs ≡ insert xs (position r e xs) e
unfolding insert_by
insert_at r e [] = refl
insert_at r e (x ∷ xs) = ⊎_elim low (high (insert_at r e xs)) (cases_lt (r x) (r e))
  where
    low : r x < r e → insert_by r e (x ∷ xs) ≡ insert (x ∷ xs) (position r e (x ∷ xs)) e
    low l = let t = lt-ltb (r x) (r e) l in rw t refl

    high : insert_by r e xs ≡ insert xs (position r e xs) e → r e ≤ r x → insert_by r e (x ∷ xs) ≡ insert (x ∷ xs) (position r e (x ∷ xs)) e
    high h l = let f = le-ltb (r x) (r e) l in rw (f, one-add) (ap (λ (ys : List ℕ). x ∷ ys) h)

-- none before it is of lower rank
pub before_position : (r : ℕ → ℕ) (e : ℕ) (xs : List ℕ) (k : ℕ) → k < position r e xs → r e ≤ r (get_or xs k 0)
before_position r e xs k h = ltb-false (r (get_or xs k 0)) (r e) (fails_before_first (λ x. ltb (r x) (r e)) xs k 0 h)

-- what stands there is
pub at_position : (r : ℕ → ℕ) (e : ℕ) (xs : List ℕ) → position r e xs < length xs → r (get_or xs (position r e xs) 0) < r e
at_position r e xs h = ltb-true (r (get_or xs (position r e xs) 0)) (r e) (passes_at_first (λ x. ltb (r x) (r e)) xs 0 h)
