use Rattle.text.specs.Texts.{Adds, below}
use Rattle.text.specs.Laid.{row_text}
use Rattle.text.proofs.hall.table.Given as goal

abbrev pub invariant-loop-channel : goal.invariant-loop-channel
invariant-loop-channel l = Adds l.initial.text l.text (below (row_text l.hall) l.channel)
