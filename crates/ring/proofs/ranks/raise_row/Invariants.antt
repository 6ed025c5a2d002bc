-- What the loop of `raise_row` keeps: the places so far rise, or something was raised. Assumes nothing.
use Rattle.ring.specs.Ranks.{InRow, Lifted}
use Rattle.ring.specs.Table.{Hands}
use Rattle.ring.proofs.ranks.raise_row.Given as goal

abbrev pub invariant-loop-entry : goal.invariant-loop-entry
invariant-loop-entry l =
    Lifted (Hands l.table.entries.now l.table.places) (InRow l.table.entries.now l.table.places l.c l.entry-index) l.initial.ranks l.ranks l.raised
