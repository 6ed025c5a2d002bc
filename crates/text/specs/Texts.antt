-- The texts that programs print, as lists of bytes. Assumes nothing.
use Rattle.std.specs.Iterator.{Drains}
use Rattle.std.specs.List.{flat_map}
use Rattle.std.specs.Prelude.{◌≡◌, ℕ, zero, suc, List, [], ◌∷◌, ◌++◌, vec_items, codes, decimal, string_bytes, Option, String, IsSome, unwrap_or}
use Rattle.ring.specs.declared.told.Verdict.{Verdict}
use Rattle.ring.specs.declared.told.Verdict.TheVariants.{Ring, Ranks}
use Rattle.report.specs.Lines.{rank_line}

-- a text is written on with these bytes
abbrev pub Adds : {Z : Type 0} → String Z → String Z → List ℕ → Type 0
Adds old new bytes = string_bytes new ≡ string_bytes old ++ bytes

-- the texts of the elements of a list one after another, each with its index, which begins at k
unfoldable pub each : {A : Type 0} → (ℕ → A → List ℕ) → ℕ → List A → List ℕ
each f k [] = []
each f k (x ∷ xs) = f k x ++ each f (suc k) xs

-- the texts of the numbers below n one after another
unfoldable pub below : (ℕ → List ℕ) → ℕ → List ℕ
below f zero = []
below f (suc n) = below f n ++ f n

-- ` none` where there is nothing
abbrev pub none_word : {A : Type 0} → List A → List ℕ
none_word [] = codes " none"
none_word (x ∷ xs) = []

-- a number after a space
abbrev pub numbered : ℕ → ℕ → List ℕ
numbered k x = codes " " ++ decimal x

-- the line of a rank
abbrev pub ranked : ℕ → ℕ → List ℕ
ranked c r = rank_line c r ++ codes "\n"

-- `ring <c1> <c2> ..`
abbrev pub text_of_ring : List ℕ → List ℕ
text_of_ring cs = (codes "ring" ++ each numbered 0 cs) ++ codes "\n"

-- `no ring`, and the rank of each channel
abbrev pub text_of_ranks : List ℕ → List ℕ
text_of_ranks rs = codes "no ring\n" ++ each ranked 0 rs

-- the text of a verdict
abbrev pub text_of_verdict : Verdict → List ℕ
text_of_verdict (Ring cs) = text_of_ring (vec_items cs)
text_of_verdict (Ranks rs) = text_of_ranks (vec_items rs)

-- the text that a thing shows, where it has one
abbrev pub shown : {A : Type 0} → (A → Option (List ℕ)) → A → List ℕ
shown output x = unwrap_or (output x) []

-- A text is written on with all that an iterator gave, in order, where each thing shows a text.
pub record Writes {S A : Type 0} (output : A → Option (List ℕ)) (steps : S → Option A → S → Type 0) (s : S) (old new : List ℕ) : Type 0 where
  pub written : ((x : A) → IsSome (output x)) → (xs : List A) × Drains steps s xs × (new ≡ old ++ flat_map (shown output) xs)
