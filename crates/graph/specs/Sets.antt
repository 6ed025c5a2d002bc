-- A set of numbers below 64 as the bits of one number. Assumes nothing.
use Rattle.std.specs.Prelude.{ℕ, ◌/◌, ◌%◌, ◌^◌, Bool, ◌==◌}

-- k is in the set
unfoldable pub has : ℕ → ℕ → Bool
has w k = w / 2 ^ k % 2 == 1
