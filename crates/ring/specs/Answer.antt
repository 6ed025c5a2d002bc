-- What is told of a foreign table, and when it is refused. Assumes nothing.
use Rattle.std.specs.Prelude.{◌≡◌, ℕ, Bool, true, false, List, length, vec_items, Decides, slice_index}
use Rattle.net.specs.declared.Entry.{Entry}
use Rattle.machine.specs.Promise.{Main}
use Rattle.ring.specs.declared.error.RingError.{RingError}
use Rattle.ring.specs.declared.error.RingError.TheVariants.{Sizes, Stray, Memory}
use Rattle.ring.specs.declared.told.Verdict.{Verdict}
use Rattle.ring.specs.declared.told.Verdict.TheVariants as verdict
use Rattle.ring.specs.Ring.{Ring, NoRing, Smallest}
use Rattle.ring.specs.Ranks.{LeastRanks, MakesGood}
use Rattle.ring.specs.Table.{Sized, Hands, InRange, FirstStray}

-- There is no ring: a rank for each channel, the least that rise along every entry, and so the table with these ranks is a
-- good net, and of every good net the promises of the machine hold.
pub record Ranked (es : List Entry) (n m : ℕ) (ranks : List ℕ) : Type 0 where
  pub free : NoRing (Hands es m)
  pub size : length ranks ≡ n
  pub least : LeastRanks (Hands es m) (λ c. slice_index ranks c)
  pub good : MakesGood es n m (λ c. slice_index ranks c)
  pub main : Main

abbrev pub Answers : List Entry → ℕ → ℕ → Verdict → Type 0
Answers es n m (verdict.Ring v) = Smallest (Hands es m) (vec_items v)
Answers es n m (verdict.Ranks v) = Ranked es n m (vec_items v)

abbrev pub is_ring : Verdict → Bool
is_ring (verdict.Ring v) = true
is_ring (verdict.Ranks v) = false

-- A ring is given exactly if there is one.
pub record Told (es : List Entry) (n m : ℕ) (v : Verdict) : Type 0 where
  pub sized : Sized es n m
  pub range : InRange es n m
  pub exactly : Decides (is_ring v) ((cs : List ℕ) × Ring (Hands es m) cs)
  pub answer : Answers es n m v

-- why a table is refused: of several causes the first
abbrev pub Refuses : List Entry → ℕ → ℕ → RingError → Type 0
Refuses es n m Sizes = Sized es n m → ⊥
Refuses es n m (Stray c p) = Sized es n m × FirstStray es n m c p
Refuses es n m Memory = Sized es n m × InRange es n m
