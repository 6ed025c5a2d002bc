-- What is told of a table: a ring exactly if there is one, and the machine's promises otherwise. Assumes nothing.
use Rattle.std.proofs.Common.{◌≡◌, ℕ, false, List, length, get_or, vec_items, Decides, refl}
use Rattle.std.proofs.lemmas.Bool.{both_ways}
use Rattle.net.specs.declared.Entry.{Entry}
use Rattle.machine.proofs.Whole.{whole}
use Rattle.ring.specs.declared.told.Verdict.{Verdict}
use Rattle.ring.specs.declared.told.Verdict.TheVariants as verdict
use Rattle.ring.specs.Answer.{Answers, Told, Ranked, is_ring}
use Rattle.ring.specs.Ring.{Ring, NoRing}
use Rattle.ring.specs.Ranks.{LeastRanks}
use Rattle.ring.specs.Table.{Sized, InRange, Hands}
use Rattle.ring.proofs.Rising.{makes_good}

pub ranked : (es : List Entry) (n m : ℕ) (ranks : List ℕ) → NoRing (Hands es m) → length ranks ≡ n → LeastRanks (Hands es m) (λ c. get_or ranks c 0) → Ranked es n m ranks
ranked es n m ranks f z l = record { free = f; size = z; least = l; good = makes_good es n m (λ c. get_or ranks c 0) l; main = whole }

exactly : (es : List Entry) (n m : ℕ) (v : Verdict) → Answers es n m v → Decides (is_ring v) ((cs : List ℕ) × Ring (Hands es m) cs)
exactly es n m (verdict.Ring v) a = ((λ t. (vec_items v, a.ring)), (λ r. refl))
exactly es n m (verdict.Ranks v) a = ((λ t. absurd (both_ways false refl t)), (λ r. absurd (a.free r.0 r.1)))

pub told : (es : List Entry) (n m : ℕ) (v : Verdict) → Sized es n m → InRange es n m → Answers es n m v → Told es n m v
told es n m v s r a = record { sized = s; range = r; exactly = exactly es n m v a; answer = a }
