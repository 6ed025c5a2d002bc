-- A file: a head, so many things of two bytes each, and then the end. Assumes nothing.
use Rattle.std.specs.Prelude.{ℕ, List, drop, Ok, Err, Result}
use Rattle.wire.specs.declared.fault.Fault.{Fault}
use Rattle.wire.specs.declared.fault.Refusal.{Refusal}
use Rattle.wire.specs.Faults.{refusal}
use Rattle.wire.specs.Pairs.{pairs}

-- a head and the things that were read after it
abbrev pub with_things : {H A : Type 0} → H → Result (List A) Refusal → Result (H × List A) Refusal
with_things h (Ok xs) = Ok (h, xs)
with_things h (Err e) = Err e

-- what follows a head: `made` makes a thing of its two bytes, `number` says how many there are, `size` is the head's
abbrev pub then_things : {H A : Type 0} → (H → ℕ → ℕ → Result A Fault) → (H → ℕ) → ℕ → Result H Fault → List ℕ → Result (H × List A) Refusal
then_things made number size (Ok h) bs = with_things h (pairs (made h) (number h) size (drop size bs))
then_things made number size (Err f) bs = Err (refusal f 0)

-- what a file says, or its first fault: the head, then each thing, then the end
abbrev pub file_read : {H A : Type 0} → (List ℕ → Result H Fault) → (H → ℕ → ℕ → Result A Fault) → (H → ℕ) → ℕ → List ℕ → Result (H × List A) Refusal
file_read head made number size bs = then_things made number size (head bs) bs

-- what was read, as another value
abbrev pub read_as : {A B : Type 0} → (A → B) → Result A Refusal → Result B Refusal
read_as f (Ok x) = Ok (f x)
read_as f (Err e) = Err e
