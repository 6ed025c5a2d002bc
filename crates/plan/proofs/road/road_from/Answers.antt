use Rattle.std.proofs.Common.{vec_items}
use Rattle.net.specs.declared.Entry.TheVariants.{Here, Link}
use Rattle.net.specs.Layout.{net_of}
use Rattle.waits.proofs.Fuel.{higher_falls}
use Rattle.waits.proofs.Plans.{plan_good, told}
use Rattle.plan.proofs.Roads.{led_on, led_there}
use Rattle.plan.proofs.road.road_from.Goals as goal

pub loop-e-smaller : goal.loop-e-smaller
loop-e-smaller c =
    let m = c.args.plan.now in
    higher_falls (net_of m.layout) (plan_good m) c.loop-e.at c.args.p c.in-Link.e
    (told m c.loop-e.at c.args.p (Link c.in-Link.e) c.in-Link.ensures)

pub loop-e-preserved : goal.loop-e-preserved
loop-e-preserved c =
    let m = c.args.plan.now in
    led_on (net_of m.layout) c.args.p c.args.c c.loop-e.at c.in-Link.e (vec_items c.loop-e.road) (vec_items c.push.new.self)
    (told m c.loop-e.at c.args.p (Link c.in-Link.e) c.in-Link.ensures) c.in_ok-push.ensures.items c.loop-e.invariant

pub returns : goal.returns
returns c =
    let m = c.args.plan.now in
    led_there (net_of m.layout) c.args.p c.args.c c.loop-e.at (vec_items c.loop-e.road)
    (told m c.loop-e.at c.args.p Here c.in_default.ensures) c.loop-e.invariant
