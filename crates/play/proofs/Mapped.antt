-- A value stays the same where only the error was made another. Assumes nothing.
use Rattle.std.proofs.Common.{◌≡◌, Ok, Err, Result, ap}
use Rattle.std.specs.Result.{MatchResult}

pub same_value : {A E : Type 0} (D : Type 0) (r : Result A E) (x : A) → MatchResult r (λ y. ◌≡◌ {A = Result A D} (Ok x) (Ok y)) (λ e. ⊥) → r ≡ Ok x
same_value D (Ok y) x e = let q : y ≡ x = cc in ap Ok q
same_value D (Err y) x e = absurd e
