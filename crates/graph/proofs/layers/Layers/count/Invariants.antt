use Rattle.std.proofs.Common.{◌≡◌, ℕ, ◌+◌, ◌<◌, ◌≤◌, cond, get_or, vec_items}
use Rattle.graph.specs.Sets.{has}
use Rattle.graph.proofs.layers.Layers.count.Given as goal

-- those below s are counted, the others are as they were
abbrev pub invariant-loop-s : goal.invariant-loop-s
invariant-loop-s l =
    ((i : ℕ) → i < l.s → get_or l.levels i 0 ≡ get_or l.initial.levels i 0 + cond (has (get_or (vec_items l.self.sets) i 0) l.root) 0 1) ×
    ((i : ℕ) → l.s ≤ i → get_or l.levels i 0 ≡ get_or l.initial.levels i 0)
