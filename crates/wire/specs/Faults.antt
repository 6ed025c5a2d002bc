-- The number of each fault, and what a reader that allocates may answer. Assumes nothing.
use Rattle.std.specs.Prelude.{◌≡◌, ℕ, Ok, Err, Result}
use Rattle.wire.specs.declared.fault.Fault.{Fault}
use Rattle.wire.specs.declared.fault.Fault.TheVariants.{
  Kind,
  Cut,
  Extra,
  Switches,
  Room,
  TooManyCables,
  NoSwitch,
  Itself,
  Apart,
  LongPatience,
  LongWait,
  TooLong,
  NoDoor,
  NoPlace,
  OldName,
  DoorFull,
  NoneMissing,
  NoLink,
  NoChannel,
  TooManyChannels,
  TooManyPlaces,
}
use Rattle.wire.specs.declared.fault.Refusal.{Refusal}
use Rattle.wire.specs.declared.fault.WireError.{WireError}
use Rattle.wire.specs.declared.fault.WireError.TheVariants.{Refused, Memory}

abbrev pub fault_number : Fault → ℕ
fault_number (Kind _) = 1
fault_number Cut = 1
fault_number Extra = 1
fault_number (Switches _) = 2
fault_number (Room _) = 2
fault_number (TooManyCables _) = 2
fault_number (NoSwitch _) = 2
fault_number (Itself _) = 3
fault_number (Apart _) = 4
fault_number LongPatience = 5
fault_number LongWait = 5
fault_number TooLong = 5
fault_number (NoDoor _) = 6
fault_number (NoPlace _) = 6
fault_number (OldName _) = 7
fault_number (DoorFull _) = 8
fault_number (NoneMissing _) = 9
fault_number (NoLink _) = 9
fault_number (NoChannel _) = 10
fault_number (TooManyChannels _) = 10
fault_number (TooManyPlaces _) = 10

abbrev pub refusal : Fault → ℕ → Refusal
refusal f at = record { fault = f; offset = at }

-- The answer is the definition's, value or refusal, unless memory ran out; `value` is what the definition calls a value
abbrev pub Answers : {A B : Type 0} → (A → B) → Result B Refusal → Result A WireError → Type 0
Answers value d (Ok v) = d ≡ Ok (value v)
Answers value d (Err (Refused x)) = d ≡ Err x
Answers value d (Err Memory) = Unit {0}
