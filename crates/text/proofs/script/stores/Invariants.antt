use Rattle.text.specs.Plays.{store_one}
use Rattle.text.specs.Texts.{Adds, below}
use Rattle.text.proofs.script.stores.Given as goal

abbrev pub invariant-loop-e : goal.invariant-loop-e
invariant-loop-e l = Adds l.initial.text l.text (below (store_one l.running) l.e)
