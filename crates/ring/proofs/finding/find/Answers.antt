-- The graph and the table have the same rings, so what is told is of the table. Assumes nothing.
use Rattle.std.proofs.Common.{◌≡◌, ℕ, List, length, vec_items, subst, arith}
use Rattle.std.proofs.lemmas.Option.{MatchOption-at_some, MatchOption-at_none}
use Rattle.net.specs.declared.Entry.{Entry}
use Rattle.ring.specs.declared.foreign.ForeignTable.{ForeignTable}
use Rattle.ring.specs.declared.told.Verdict.{Verdict}
use Rattle.ring.specs.Answer.{Answers, Told}
use Rattle.ring.specs.Graph.{FeedsIn}
use Rattle.ring.specs.Ring.{NoRing, Smallest}
use Rattle.ring.specs.Table.{Hands}
use Rattle.ring.proofs.Alike.{no_ring_like, smallest_like}
use Rattle.ring.proofs.Whole.{ranked, told}
use Rattle.ring.proofs.finding.find.Goals as goal

told_of : (t : ForeignTable) (es : List Entry) (n m : ℕ) (v : Verdict) → (t.entries.now ≡ es) × (t.channels ≡ n) × (t.places ≡ m) → Answers t.entries.now t.channels t.places v → Told es n m v
told_of t es n m v e a =
    subst (λ (xs : List Entry). Told xs n m v) e.0 (subst (λ (i : ℕ). Told t.entries.now i m v) e.1 (subst (λ (i : ℕ). Told t.entries.now t.channels i v) e.2
    (told t.entries.now t.channels t.places v t.sized t.range a)))

pub returns-in-Some : goal.returns-in-Some
returns-in-Some c =
    let t = c.in_ok-table.table in
    let g = c.in_ok-graph.graph in
    let a = c.in_ok-graph.ensures in
    told_of t c.args.table.now c.args.channels c.args.places _ c.in_ok-table.ensures
    (smallest_like (FeedsIn g) (Hands t.entries.now t.places) a.only a.each (vec_items c.in-Some.ring)
    (MatchOption-at_some (NoRing (FeedsIn g)) (λ v. Smallest (FeedsIn g) (vec_items v)) c.in-Some.ring c.in-Some.is c.in_ok-ring.ensures))

pub least_ranks-requires : goal.least_ranks-requires
least_ranks-requires c =
    let t = c.in_ok-table.table in
    let g = c.in_ok-graph.graph in
    let a = c.in_ok-graph.ensures in
    no_ring_like (FeedsIn g) (Hands t.entries.now t.places) a.only a.each
    (MatchOption-at_none (NoRing (FeedsIn g)) (λ v. Smallest (FeedsIn g) (vec_items v)) c.in_default.is c.in_ok-ring.ensures)

pub returns : goal.returns
returns c =
    let t = c.in_ok-table.table in
    let g = c.in_ok-graph.graph in
    let a = c.in_ok-graph.ensures in
    let k = c.in_ok-ranks.ensures in
    let l = k.0 in
    let o = c.in_ok-ranks.ranks.ok.0 in
    let z : length (vec_items c.in_ok-ranks.ranks) ≡ t.channels = omega arith in
    told_of t c.args.table.now c.args.channels c.args.places _ c.in_ok-table.ensures
    (ranked t.entries.now t.channels t.places (vec_items c.in_ok-ranks.ranks)
    (no_ring_like (FeedsIn g) (Hands t.entries.now t.places) a.only a.each
    (MatchOption-at_none (NoRing (FeedsIn g)) (λ v. Smallest (FeedsIn g) (vec_items v)) c.in_default.is c.in_ok-ring.ensures))
    z k.1)
