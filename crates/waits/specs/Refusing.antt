-- Why no bounds are given. Assumes nothing.
use Rattle.net.specs.Net.{Net}
use Rattle.waits.specs.declared.error.WaitError.{WaitError}
use Rattle.waits.specs.declared.error.WaitError.TheVariants.{TooLong, Memory}
use Rattle.waits.specs.Working.{Exceeds}

-- want of memory says nothing of the net
abbrev pub Why : Net → WaitError → Type 0
Why z TooLong = Exceeds z
Why z Memory = Unit {0}
