-- With every row the graph says who hands blocks to whom. Assumes nothing.
use Rattle.std.proofs.Common.{◌≡◌, ℕ, vec_items, subst, arith}
use Rattle.ring.specs.Table.{Marked}
use Rattle.ring.proofs.Filled.{all_marked}
use Rattle.ring.proofs.dependencies.Dependencies.of.Goals as goal

pub returns : goal.returns
returns c =
    let t = c.args.table.now in
    let i = c.loop-c.invariant in
    let e : c.loop-c.c ≡ t.channels = omega arith in
    all_marked t.entries.now t.channels t.places c.loop-c.graph t.sized.table i.same
    (subst (λ (k : ℕ). Marked t.entries.now t.channels t.places k 0 (vec_items c.loop-c.graph.marks)) e i.marked)
