-- One lowest member more. Assumes nothing.
use Rattle.std.proofs.Common.{◌≡◌, ℕ, ◌+◌, Option, get_or, refl, vec_items, sym, ap, subst, arith, rules}
use Rattle.ring.specs.declared.shortest.Best.{Best}
use Rattle.ring.specs.Fewest.{FewestOf, members_of}
use Rattle.ring.specs.Graph.{FeedsIn}
use Rattle.ring.proofs.Least.{keeps_best, nothing_yet, takes_best}
use Rattle.ring.proofs.shortest.fewest.Goals as goal
use Rattle.ring.proofs.shortest.fewest.Goals.{in-Some, in_default}

pub loop-low-init : goal.loop-low-init
loop-low-init c = record { best = nothing_yet (FeedsIn c.args.graph.now) c.args.graph.now.channels; room = search rules }

pub loop-low-preserved : goal.loop-low-preserved
loop-low-preserved c =
    let H : ℕ → ℕ → Type 0 = FeedsIn c.args.graph.now in
    let n = c.args.graph.now.channels in
    let y = c.loop-low.low in
    let o = c.loop-low.best in
    let back = c.back_to-back.result in
    let a = vec_items back.numbers in
    let m = c.map_or-most.result in
    let most : m ≡ members_of n o = search rules in
    let e = c.back_to-back.ensures in
    let at : get_or a back.to 0 ≡ get_or a y 0 = ap (λ (i : ℕ). get_or a i 0) e.0 in
    let best : FewestOf H n (y + 1) _ = elim c.match-members_below.branch [
      | in-Some w ↦
          let h = w.in-Some.ensures in
          subst (λ (b : Option Best). FewestOf H n (y + 1) b) (sym w.best-is)
          (takes_best H n y m o a (record { low = y; members = w.in-Some.members }) most c.loop-low.invariant.best e.2 (omega (arith, h.0, h.2)) (omega (arith, h.1, h.2)) refl (omega (arith, h.2)))
      | in_default w ↦
          let h = w.in_default.ensures in
          subst (λ (b : Option Best). FewestOf H n (y + 1) b) (sym w.best-is)
          (keeps_best H n y m o a most c.loop-low.invariant.best e.2 (λ p. let g = h (omega arith) in omega arith))
    ] in
    record { best = best; room = search rules }

pub returns : goal.returns
returns c =
    let e : c.loop-low.low ≡ c.args.graph.now.channels = omega arith in
    subst (λ (y : ℕ). FewestOf (FeedsIn c.args.graph.now) c.args.graph.now.channels y c.loop-low.best) e c.loop-low.invariant.best
