-- Why a program fails, and what is told of it. Assumes nothing.
use Rattle.std.specs.Prelude.{ℕ, List, ◌++◌, codes, string_bytes}
use Rattle.anyhow.specs.Error.{error_message}
use Rattle.anyhow.specs.declared.error.Error.{Error}
use Rattle.report.specs.Notices.{notice_line}
use Rattle.report.specs.declared.lines.Source.{Source}
use Rattle.wire.specs.declared.fault.WireError.{WireError}
use Rattle.wire.specs.declared.fault.WireError.TheVariants.{Refused as Faulty, Memory as Spent}
use Rattle.console.specs.declared.failure.Failure.{Failure}
use Rattle.console.specs.declared.failure.Failure.TheVariants.{Unread, Refused, Memory, Other}

-- why a file of this kind gives no value
abbrev pub failure_of : Source → WireError → Failure
failure_of s (Faulty x) = Refused (record { refusal = x; source = s })
failure_of s Spent = Memory

-- a failure that holds an error of this kind
abbrev pub MadeOf : (Error → Type 0) → Failure → Type 0
MadeOf P (Other cause) = P cause
MadeOf P f = ⊥

-- the words for a failure
abbrev pub failure_words : Failure → List ℕ
failure_words (Unread name) = codes "cannot read " ++ string_bytes name
failure_words (Refused n) = notice_line n.refusal n.source
failure_words Memory = codes "no memory"
failure_words (Other cause) = error_message cause

-- a fault is told as it is, any other failure after the program's name
abbrev pub failure_line : List ℕ → Failure → List ℕ
failure_line program (Refused n) = notice_line n.refusal n.source
failure_line program f = program ++ (codes ": " ++ failure_words f)
