-- What the loop of `mark_row` keeps: the places so far are marked. Assumes nothing.
use Rattle.std.proofs.Common.{◌≡◌}
use Rattle.ring.specs.Table.{Marked}
use Rattle.ring.proofs.dependencies.Dependencies.mark_row.Given as goal

abbrev pub invariant-loop-entry : goal.invariant-loop-entry
invariant-loop-entry l = record {
  same : l.self.channels ≡ l.initial.self.channels;
  marked : Marked l.table.entries.now l.table.channels l.table.places l.c l.entry-index l.self.marks.items;
}
