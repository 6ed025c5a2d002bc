-- The first cell of a table at which a test says that the ranks do not rise is the first fall of its layout.
use Rattle.std.proofs.Common.{◌≡◌, ℕ, ◌+◌, ◌<◌, Bool, true, false, not, Option, Some, None, MatchOption, ⊎_elim}
use Rattle.std.proofs.lemmas.Bool.{cases_lt}
use Rattle.net.specs.declared.layout.Layout.{Layout}
use Rattle.net.specs.Grid.{NoneIn, IsFirst}
use Rattle.net.specs.Layout.{Sized, FirstOfAll, AllRise, rises_at}
use Rattle.net.proofs.Outside.{past_row, past_channels}

-- the test: what it may answer at an entry tells whether ranks rise there
module _ (l : Layout) (sized : Sized l) (answers : ℕ → ℕ → Bool → Type 0) (tells : (c p : ℕ) (b : Bool) → answers c p b → rises_at l c p ≡ not b) where
  row_rises : (n c : ℕ) → NoneIn answers n l.places → c < n → (p : ℕ) → rises_at l c p ≡ true
  row_rises n c none h p = ⊎_elim (λ g. tells c p false (none.passed c p h g)) (λ g. past_row l c p g) (cases_lt p l.places)

  falls : (o : Option (ℕ × ℕ)) → MatchOption o (NoneIn answers (l.links + l.doors) l.places) (λ x. IsFirst answers (l.links + l.doors) l.places x.0 x.1) →
      MatchOption o (AllRise l) (λ x. FirstOfAll l x.0 x.1)
  falls None none = λ c p.
      ⊎_elim (λ h. row_rises (l.links + l.doors) c none h p) (λ h. past_channels l sized c p h) (cases_lt c (l.links + l.doors))
  falls (Some (c, p)) f =
      record {
        channel = f.row;
        here = record { place = f.column; falls = tells c p true f.picked; first = λ q h. tells c q false (f.before q h) };
        earlier = λ d q h. row_rises c d f.above h q;
      }

pub first_fall : (l : Layout) → Sized l → (answers : ℕ → ℕ → Bool → Type 0) (o : Option (ℕ × ℕ)) → MatchOption o (NoneIn answers (l.links + l.doors) l.places) (λ x. IsFirst answers (l.links + l.doors) l.places x.0 x.1) →
    ((c p : ℕ) (b : Bool) → answers c p b → rises_at l c p ≡ not b) → MatchOption o (AllRise l) (λ x. FirstOfAll l x.0 x.1)
first_fall l sized answers o first tells = falls l sized answers tells o first
