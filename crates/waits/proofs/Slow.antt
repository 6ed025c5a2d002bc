-- Where a test of doors and places tells whether the wait is too long, the cell that it picks first is too slow, and with none all is soon. Assumes nothing.
use Rattle.std.proofs.Common.{◌≡◌, ℕ, ◌+◌, Bool, true, false, ltb, Option, Some, None, MatchOption, sym}
use Rattle.std.proofs.lemmas.Bool.{ltb-true, ltb-false}
use Rattle.net.specs.Grid.{NoneIn, IsFirst}
use Rattle.net.specs.Net.{Net}
use Rattle.machine.specs.Waits.{wait}
use Rattle.waits.specs.Working.{longest, TooSlow, AllSoon}

pub first_slow : (z : Net) (answers : ℕ → ℕ → Bool → Type 0) (o : Option (ℕ × ℕ)) → MatchOption o (NoneIn answers z.doors z.places) (λ x. IsFirst answers z.doors z.places x.0 x.1) →
    ((d p : ℕ) (b : Bool) → answers d p b → b ≡ ltb longest (wait z 0 (z.links + d) p)) → MatchOption o (AllSoon z) (λ x. TooSlow z x.0 x.1)
first_slow z answers None none tells = λ d l p m. ltb-false longest (wait z 0 (z.links + d) p) (sym (tells d p false (none.passed d p l m)))
first_slow z answers (Some (d, p)) f tells = record { door = f.row; place = f.column; long = ltb-true longest (wait z 0 (z.links + d) p) (sym (tells d p true f.picked)) }
