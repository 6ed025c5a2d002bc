-- Things of two bytes each, one after another: how they are read and written. Assumes nothing.
use Rattle.std.specs.Prelude.{ℕ, zero, suc, ◌+◌, ◌*◌, ◌<◌, List, [], ◌∷◌, drop, Ok, Err, Result}
use Rattle.std.specs.List.{AllByRecursion}
use Rattle.wire.specs.declared.fault.Fault.{Fault}
use Rattle.wire.specs.declared.fault.Fault.TheVariants.{Cut, Extra}
use Rattle.wire.specs.declared.fault.Refusal.{Refusal}
use Rattle.wire.specs.Faults.{refusal}

-- each element of a list has the property
abbrev pub Each : {A : Type 0} → (A → Type 0) → List A → Type 0
Each P xs = AllByRecursion P xs

-- a list of bytes
abbrev pub Bytes : List ℕ → Type 0
Bytes bs = Each (λ b. b < 256) bs

-- two bytes, high byte first
abbrev pub word : ℕ → ℕ → ℕ
word high low = 256 * high + low

-- a thing at an offset: its value, or its fault with the offset
abbrev pub placed : {A : Type 0} → ℕ → Result A Fault → Result A Refusal
placed at (Ok x) = Ok x
placed at (Err f) = Err (refusal f at)

-- one value more in front of those that follow; the first refusal counts
abbrev pub after : {A : Type 0} → Result A Refusal → Result (List A) Refusal → Result (List A) Refusal
after (Err e) more = Err e
after (Ok x) (Ok xs) = Ok (x ∷ xs)
after (Ok x) (Err e) = Err e

-- the thing that begins at an offset, where the bytes from there on are these; `made` makes it of its two bytes
abbrev pub pair_at : {A : Type 0} → (ℕ → ℕ → Result A Fault) → ℕ → List ℕ → Result A Refusal
pair_at made at [] = Err (refusal Cut at)
pair_at made at (a ∷ []) = Err (refusal Cut at)
pair_at made at (a ∷ b ∷ rest) = placed at (made a b)

-- so many things, and then the end
abbrev pub pairs : {A : Type 0} → (ℕ → ℕ → Result A Fault) → ℕ → ℕ → List ℕ → Result (List A) Refusal
pairs made zero at [] = Ok []
pairs made zero at (b ∷ bs) = Err (refusal Extra at)
pairs made (suc k) at bs = after (pair_at made at bs) (pairs made k (at + 2) (drop 2 bs))

-- the bytes of a list of things; `high` and `low` give the two bytes of one
abbrev pub pair_bytes : {A : Type 0} → (A → ℕ) → (A → ℕ) → List A → List ℕ
pair_bytes high low [] = []
pair_bytes high low (x ∷ xs) = high x ∷ low x ∷ pair_bytes high low xs
