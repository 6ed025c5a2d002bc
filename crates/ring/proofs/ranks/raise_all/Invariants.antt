-- What the loop of `raise_all` keeps: the rows so far rise, or something was raised. Assumes nothing.
use Rattle.ring.specs.Ranks.{Below, Lifted}
use Rattle.ring.specs.Table.{Hands}
use Rattle.ring.proofs.ranks.raise_all.Given as goal

abbrev pub invariant-loop-c : goal.invariant-loop-c
invariant-loop-c l =
    Lifted (Hands l.table.entries.now l.table.places) (Below l.table.entries.now l.table.places l.c) l.initial.ranks l.ranks l.raised
