-- Where a link goes into the order of serving, by the ranks in a list. Assumes nothing.
use Rattle.std.specs.Prelude.{ℕ, Bool, true, false, List, Ok, Err, Result, nat_lt, slice_index}
use Rattle.std.specs.List.{position_or_len}
use Rattle.net.specs.declared.serving.OrderError.{OrderError}
use Rattle.net.specs.declared.serving.OrderError.TheVariants.{TooMany, Memory}

-- link k's rank
abbrev pub rank_of : List ℕ → ℕ → ℕ
rank_of ranks k = slice_index ranks k

-- the position of the first of lower rank than e, else the end
abbrev pub position : (ℕ → ℕ) → ℕ → List ℕ → ℕ
position r e xs = position_or_len (λ x. nat_lt (r x) (r e)) xs

-- no order, since there are too many links
abbrev pub is_too_many : {X : Type 0} → Result X OrderError → Bool
is_too_many (Ok x) = false
is_too_many (Err TooMany) = true
is_too_many (Err Memory) = false
