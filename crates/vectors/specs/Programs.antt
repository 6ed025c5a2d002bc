-- What the programs answer to their files. Assumes nothing.
use Rattle.std.specs.Prelude.{◌≡◌, ℕ, ◌≤◌, Bool, true, false, ◌⊎◌, List, [], length, drop, Some, Ok, Err}
use Rattle.net.specs.Net.{Net}
use Rattle.wire.specs.Script.{thing_read}
use Rattle.wire.specs.Tables.{Foreign, table_read}
use Rattle.plan.specs.Built.{Lays}
use Rattle.plan.specs.Halls.{read_hall}
use Rattle.plan.specs.declared.hall.Hall.{Hall}
use Rattle.play.specs.Games.{Position, stopped}
use Rattle.play.specs.Kept.{Course}
use Rattle.ring.specs.Answer.{Told, is_ring}
use Rattle.ring.specs.declared.told.Verdict.{Verdict}
use Rattle.text.specs.Laid.{Ways, text_of_hall}
use Rattle.text.specs.Texts.{text_of_verdict}
use Rattle.vectors.specs.declared.answer.End.{End}
use Rattle.vectors.specs.declared.answer.End.TheVariants.{Well, Ring, Refused}
use Rattle.vectors.specs.declared.fnv.Digest.{Digest}
use Rattle.vectors.specs.Digests.{digest_of}

-- the digest of the text of the hall that is laid; or why the cables are refused
abbrev pub Laid : List ℕ → Digest → End → Type 0
Laid cs d Well = (h : Hall) × Lays cs h × ((way : ℕ → ℕ → List ℕ) → Ways h way → d.0 ≡ digest_of (text_of_hall h way))
Laid cs d Ring = ⊥
Laid cs d (Refused x) = (read_hall cs ≡ Err x) × (d.0 ≡ digest_of [])

-- the script was played to its end; or why the cables are refused, or the first thing of the script that is
abbrev pub Played : List ℕ → List ℕ → End → Type 0
Played cs bs Well = ∥ ((z : Net) × (i : ℕ) × (g : Position) × Course cs bs z i g × (length bs ≤ i)) ∥₁
Played cs bs Ring = ⊥
Played cs bs (Refused x) = (read_hall cs ≡ Err x) ⊎ ∥ ((z : Net) × (i : ℕ) × (g : Position) × Course cs bs z i g × (stopped z g i (thing_read i (drop i bs)) ≡ Some x)) ∥₁

-- the digest of the verdict on a table that was read, which tells of a ring or not
pub record Judges (t : Foreign) (d : Digest) (ring : Bool) : Type 0 where
  pub verdict : Verdict
  pub kind : is_ring verdict ≡ ring
  pub told : Told t.entries t.channels t.places verdict
  pub text : d.0 ≡ digest_of (text_of_verdict verdict)

-- whether a table has a ring; or why it is refused
abbrev pub Judged : List ℕ → Digest → End → Type 0
Judged ts d Well = (t : Foreign) × (table_read ts ≡ Ok t) × Judges t d false
Judged ts d Ring = (t : Foreign) × (table_read ts ≡ Ok t) × Judges t d true
Judged ts d (Refused x) = (table_read ts ≡ Err x) × (d.0 ≡ digest_of [])

-- the same of a table that was read
abbrev pub JudgedTable : Foreign → Digest → End → Type 0
JudgedTable t d Well = Judges t d false
JudgedTable t d Ring = Judges t d true
JudgedTable t d (Refused x) = ⊥
