-- What the heads of files have in common. Assumes nothing.
use Rattle.std.specs.Prelude.{ℕ, Bool, cond, ◌&&◌, List, [], ◌∷◌, length, Ok, Some, None, Err, Option, Result, ◌==◌, nat_le, nat_lt, slice_index}
use Rattle.wire.specs.declared.fault.Fault.{Fault}
use Rattle.wire.specs.declared.fault.Fault.TheVariants.{Kind, Cut}

-- a number from 1 to a limit
abbrev pub within : ℕ → ℕ → Bool
within limit n = nat_lt 0 n && nat_le n limit

-- the bytes after a file's first, which is to be a kind
abbrev pub bytes_after : ℕ → List ℕ → Result (List ℕ) Fault
bytes_after kind [] = Err Cut
bytes_after kind (b ∷ bs) = cond (b == kind) (Ok bs) (Err (Kind b))

-- what is wrong with a file's first bytes: there are none, the kind is another, or there are fewer than the head has
abbrev pub beginning : ℕ → ℕ → List ℕ → Option Fault
beginning kind size bs =
    cond (length bs == 0)
    (Some Cut)
    (cond (slice_index bs 0 == kind)
    (cond (nat_lt (length bs) size) (Some Cut) None)
    (Some (Kind (slice_index bs 0))))

-- a fault that comes first
abbrev pub unless : {A : Type 0} → Option Fault → Result A Fault → Result A Fault
unless (Some f) r = Err f
unless None r = r
