use Rattle.std.proofs.Common.{ℕ, ◌<◌, false}
use Rattle.net.specs.Grid.{NoneIn}
use Rattle.net.proofs.grid.first_cell.Given as goal

abbrev pub invariant-loop-row : goal.invariant-loop-row
invariant-loop-row g l = NoneIn (goal.F-post g l.picks) l.row l.columns

abbrev pub invariant-loop-column : goal.invariant-loop-column
invariant-loop-column g l = (c : ℕ) → c < l.column → goal.F-post g l.picks l.row c false
