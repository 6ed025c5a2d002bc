use Rattle.std.proofs.Common.{sym, ap}
use Rattle.net.specs.declared.plan.Plan.{Plan}
use Rattle.net.specs.Layout.{net_of}
use Rattle.play.proofs.Course.{play_starts}
use Rattle.play.proofs.play.Play.start.Goals as goal

pub invariant_of-result : goal.invariant_of-result
invariant_of-result c =
    let g = c.in_ok-game.game in
    let p = play_starts c.args.cables.now c.args.script.now g c.in_ok-hall.hall (net_of c.into_plan.result.layout) c.in_ok-hall.ensures (sym (ap (λ (m : Plan). net_of m.layout) c.into_plan.ensures))
    c.in_ok-game.ensures.net c.in_ok-game.ensures.begins in
    record { counted = p.0; past = ∣ p.1 ∣₁ }
