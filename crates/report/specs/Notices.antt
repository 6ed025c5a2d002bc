-- The line of a refusal, and the words for the cause of each fault. Assumes nothing.
use Rattle.std.specs.Prelude.{ℕ, List, ◌++◌, codes, decimal}
use Rattle.wire.specs.Faults.{fault_number}
use Rattle.wire.specs.declared.fault.Fault.{Fault}
use Rattle.wire.specs.declared.fault.Fault.TheVariants.{
  Kind,
  Cut,
  Extra,
  Switches,
  Room,
  TooManyCables,
  NoSwitch,
  Itself,
  Apart,
  LongPatience,
  LongWait,
  TooLong,
  NoDoor,
  NoPlace,
  OldName,
  DoorFull,
  NoneMissing,
  NoLink,
  NoChannel,
  TooManyChannels,
  TooManyPlaces,
}
use Rattle.wire.specs.declared.fault.Refusal.{Refusal}
use Rattle.report.specs.declared.lines.Source.{Source}
use Rattle.report.specs.declared.lines.Source.TheVariants.{Cables, Script, Table}

abbrev pub cause_words : Fault → List ℕ
cause_words (Kind k) = codes "unknown kind " ++ decimal k
cause_words Cut = codes "the file ends too early"
cause_words Extra = codes "a byte too many"
cause_words (Switches n) = decimal n ++ codes " switches, not 1 to 64"
cause_words (Room m) = codes "stores for " ++ (decimal m ++ codes ", not 1 to 32")
cause_words (TooManyCables n) = decimal n ++ codes " cables, more than 128"
cause_words (NoSwitch s) = codes "switch " ++ (decimal s ++ codes " is not there")
cause_words (Itself s) = codes "a cable from switch " ++ (decimal s ++ codes " to itself")
cause_words (Apart s) = codes "switch " ++ (decimal s ++ codes " cannot be reached from switch 0")
cause_words LongPatience = codes "a patience is above 2^40"
cause_words LongWait = codes "a wait is above 2^40"
cause_words TooLong = codes "a patience or a wait is above 2^40"
cause_words (NoDoor d) = codes "door " ++ (decimal d ++ codes " is not there")
cause_words (NoPlace p) = codes "place " ++ (decimal p ++ codes " is not there")
cause_words (OldName n) = codes "name " ++ (decimal n ++ codes " is not above the last one")
cause_words (DoorFull d) = codes "more than 4096 blocks wait at door " ++ decimal d
cause_words (NoneMissing e) = codes "no place is missing at link " ++ decimal e
cause_words (NoLink e) = codes "link " ++ (decimal e ++ codes " is not there")
cause_words (NoChannel c) = codes "channel " ++ (decimal c ++ codes " is not there")
cause_words (TooManyChannels n) = decimal n ++ codes " channels, more than 320"
cause_words (TooManyPlaces n) = decimal n ++ codes " places, more than 64"

abbrev pub file_word : Source → List ℕ
file_word Cables = codes "cables"
file_word Script = codes "script"
file_word Table = codes "table"

-- `refused <number> at byte <offset> of <file>: <cause>`
abbrev pub notice_line : Refusal → Source → List ℕ
notice_line r s =
    codes "refused " ++ (decimal (fault_number r.fault) ++ (codes " at byte " ++ (decimal r.offset ++ (codes " of " ++ (file_word s ++ (codes ": " ++ cause_words r.fault))))))
