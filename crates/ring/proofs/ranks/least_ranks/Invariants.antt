-- What the loop of `least_ranks` keeps, and that it ends: ranks are bounded, and their sum rises. Assumes nothing.
use Rattle.std.proofs.Common.{◌-◌, ◌*◌, sum, vec_items}
use Rattle.ring.specs.Ranks.{Ready}
use Rattle.ring.proofs.ranks.least_ranks.Given as goal

abbrev pub invariant-loop : goal.invariant-loop
invariant-loop l = Ready l.table.entries.now l.table.channels l.table.places (vec_items l.ranks)

abbrev pub decreases-loop : goal.decreases-loop
decreases-loop l = l.table.channels * l.table.channels - sum (vec_items l.ranks)
