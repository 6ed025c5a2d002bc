use Rattle.std.proofs.Common.{ℕ, ◌+◌, ◌<◌, get_or, sym, subst, arith}
use Rattle.net.specs.declared.Entry.TheVariants.{Here, Link}
use Rattle.net.specs.Layout.{net_of}
use Rattle.net.specs.Net.{channels}
use Rattle.waits.proofs.Fuel.{higher_falls, higher_most, rest_here}
use Rattle.waits.proofs.Plans.{plan_good, plan_link, told}
use Rattle.waits.proofs.Roads.{Walked, walk_step}
use Rattle.waits.proofs.patience.Patience.along.Goals as goal

pub loop-e-init : goal.loop-e-init
loop-e-init c =
    let k = higher_most (net_of c.args.self.now.plan.now.layout) c.args.c in
    record { there = c.requires; left = omega arith; small = omega arith }

pub loop-e-smaller : goal.loop-e-smaller
loop-e-smaller c =
    let m = c.args.self.now.plan.now in
    higher_falls (net_of m.layout) (plan_good m) c.loop-e.at c.args.p c.in-Link.e
    (told m c.loop-e.at c.args.p (Link c.in-Link.e) c.in-Link.ensures)

pub loop-e-preserved : goal.loop-e-preserved
loop-e-preserved c =
    let m = c.args.self.now.plan.now in
    let z = net_of m.layout in
    let q = told m c.loop-e.at c.args.p (Link c.in-Link.e) c.in-Link.ensures in
    let l : c.in-Link.e < m.layout.links = plan_link m c.loop-e.at c.args.p c.in-Link.e q in
    let d : c.in-Link.e < channels z = omega arith in
    let r = c.args.self.now.complete.right c.in-Link.e d in
    let s = c.args.self.now.complete.short c.in-Link.e d in
    let k = walk_step z (plan_good m) m.sized.most c.args.c c.args.p c.loop-e.at c.in-Link.e c.loop-e.sum
    (get_or c.args.self.now.found.now c.in-Link.e 0) q r (omega arith) c.loop-e.invariant in
    subst (λ (x : ℕ). Walked z c.args.c c.args.p c.in-Link.e (c.loop-e.sum + x)) (sym c.full_store-sum.ensures.is) k

pub returns-clause-is : goal.returns-clause-is
returns-clause-is c =
    let m = c.args.self.now.plan.now in
    let e = rest_here (net_of m.layout) (plan_good m) c.loop-e.at c.args.p
    (told m c.loop-e.at c.args.p Here c.in_default.ensures) in
    let v = c.loop-e.invariant.left in
    omega arith
