-- What the loop of `of` keeps: the rows so far are marked. Assumes nothing.
use Rattle.std.proofs.Common.{◌≡◌}
use Rattle.ring.specs.Table.{Marked}
use Rattle.ring.proofs.dependencies.Dependencies.of.Given as goal

abbrev pub invariant-loop-c : goal.invariant-loop-c
invariant-loop-c l = record {
  same : l.graph.channels ≡ l.table.channels;
  marked : Marked l.table.entries.now l.table.channels l.table.places l.c 0 l.graph.marks.items;
}
