use Rattle.std.proofs.Common.{◌≡◌, ℕ, ◌<◌, length, sym, ap, subst, arith}
use Rattle.std.proofs.lemmas.List.{get_or_read}
use Rattle.net.specs.Layout.{net_of}
use Rattle.net.specs.Net.{channels}
use Rattle.waits.specs.declared.feeders.Feeders.{Feeders}
use Rattle.waits.specs.Feeding.{none, Counted}
use Rattle.waits.proofs.Counting.{counted_none, counted_here, counted_over, counted_row, counted_all, counts_small}
use Rattle.waits.proofs.Plans.{plan_link}
use Rattle.waits.proofs.feeding.Feeding.of.Goals as goal
use Rattle.waits.proofs.feeding.Feeding.of.Goals.{in-Link, in_default}

pub loop-c-init : goal.loop-c-init
loop-c-init c = rw (c.in_ok-feeders.ensures.items_if_clones_equal (λ y q. q)) (counted_none (net_of c.args.plan.now.layout))

pub count-requires : goal.count-requires
count-requires c =
    let m = c.args.plan.now in
    let e = c.in-Link.e in
    let l : e < m.layout.links = plan_link m c.loop-c.c c.loop-p.p e (sym c.in-Link.ensures) in
    let i : e < length c.loop-p.feeders.items = let s = c.loop-p.invariant.slots in omega arith in
    let r = ap (λ (f : Feeders). f.number) (get_or_read c.loop-p.feeders.items e c.index_mut.result.now i c.index_mut.ensures.value none) in
    let n = counts_small (net_of m.layout) e c.loop-c.c c.loop-p.p _ (c.loop-p.invariant.each e l) in
    let f = m.sized.few in
    omega arith

pub loop-p-preserved : goal.loop-p-preserved
loop-p-preserved c =
    let m = c.args.plan.now in
    let z = net_of m.layout in
    elim c.match-entry.branch [
      | in-Link w ↦
          let e = w.in-Link.e in
          let q = sym w.in-Link.ensures in
          let l : e < m.layout.links = plan_link m c.loop-c.c c.loop-p.p e q in
          let i : e < length c.loop-p.feeders.items = let s = c.loop-p.invariant.slots in omega arith in
          let r = get_or_read c.loop-p.feeders.items e w.index_mut.result.now i w.index_mut.ensures.value none in
          rw (w.feeders-is, w.count.ensures, r) (counted_over z c.loop-c.c c.loop-p.p e c.loop-p.feeders.items l q c.loop-p.invariant)
      | in_default w ↦
          rw w.feeders-is (counted_here z c.loop-c.c c.loop-p.p c.loop-p.feeders.items (sym w.in_default.ensures) c.loop-p.invariant)
    ]

pub loop-c-preserved : goal.loop-c-preserved
loop-c-preserved c =
    let z = net_of c.args.plan.now.layout in
    let q : c.loop-p.p ≡ z.places = omega arith in
    counted_row z c.loop-c.c c.loop-p.feeders.items (subst (λ (p : ℕ). Counted z c.loop-c.c p c.loop-p.feeders.items) q c.loop-p.invariant)

pub invariant_of-result : goal.invariant_of-result
invariant_of-result c =
    let z = net_of c.args.plan.now.layout in
    let q : c.loop-c.c ≡ channels z = omega arith in
    record { fed = counted_all z c.loop-c.feeders.items (subst (λ (n : ℕ). Counted z n 0 c.loop-c.feeders.items) q c.loop-c.invariant) }
