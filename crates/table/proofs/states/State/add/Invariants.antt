use Rattle.std.proofs.Common.{◌≡◌, ℕ, ◌<◌, ◌≤◌, cond, get_or, vec_items}
use Rattle.graph.specs.Sets.{has}
use Rattle.net.specs.declared.Entry.TheVariants.{Here, Link}
use Rattle.table.proofs.states.State.add.Given as goal

abbrev pub invariant-loop-p : goal.invariant-loop-p
invariant-loop-p l =
    ((i : ℕ) → i < l.p → get_or l.entry-items i Here ≡ cond (has l.fresh i) (Link l.k) (get_or (vec_items l.fn.self.row) i Here)) ×
    ((i : ℕ) → l.p ≤ i → get_or l.entry-items i Here ≡ get_or (vec_items l.fn.self.row) i Here)
