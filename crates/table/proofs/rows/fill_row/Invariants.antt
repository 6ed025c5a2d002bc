use Rattle.std.proofs.Common.{◌≡◌, ℕ, ◌<◌, ◌≤◌, cond, get_or}
use Rattle.graph.specs.Sets.{has}
use Rattle.net.specs.declared.Entry.TheVariants.{Here}
use Rattle.table.proofs.rows.fill_row.Given as goal

abbrev pub invariant-loop-p : goal.invariant-loop-p
invariant-loop-p l =
    ((i : ℕ) → i < l.p → get_or l.row i Here ≡ cond (has l.met i) (get_or l.onward i Here) Here) × ((i : ℕ) → l.p ≤ i → get_or l.row i Here ≡ get_or l.onward i Here)
