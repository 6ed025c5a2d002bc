-- What an answer says of a refusal, and the text of an answer. Assumes nothing.
use Rattle.std.specs.Prelude.{◌≡◌, ℕ, List, ◌++◌, codes, decimal}
use Rattle.wire.specs.Faults.{fault_number}
use Rattle.wire.specs.declared.fault.WireError.{WireError}
use Rattle.wire.specs.declared.fault.WireError.TheVariants.{Memory, Refused as «refused»}
use Rattle.vectors.specs.declared.answer.Answer.{Answer}
use Rattle.vectors.specs.declared.answer.End.{End}
use Rattle.vectors.specs.declared.answer.End.TheVariants.{Well, Ring, Refused}
use Rattle.vectors.specs.declared.fnv.Digest.{Digest}
use Rattle.vectors.specs.Digests.{digest_word}

-- the refusal, and what was printed before; want of memory has no answer
abbrev pub Tells : WireError → Digest → Answer → Type 0
Tells («refused» x) d a = (a.end ≡ Refused x) × (a.digest ≡ d)
Tells Memory d a = ⊥

-- the status, which is 1 where a ring is found or a file is refused; the fault's number and offset, or 0 and 0
abbrev pub end_words : End → List ℕ
end_words Well = codes "0 0 0"
end_words Ring = codes "1 0 0"
end_words (Refused x) = codes "1 " ++ (decimal (fault_number x.fault) ++ (codes " " ++ decimal x.offset))

-- `<status> <fault> <offset> <digest>`
abbrev pub answer_line : Answer → List ℕ
answer_line a = end_words a.end ++ (codes " " ++ digest_word a.digest.0)
