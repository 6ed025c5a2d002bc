use Rattle.std.proofs.Common.{sym}
use Rattle.play.proofs.Course.{play_on}
use Rattle.play.proofs.play.Play.step.Goals as goal

pub invariant_of-self-2 : goal.invariant_of-self-2
invariant_of-self-2 c =
    let s = c.args.self.now in
    let o = c.in_ok-thing.ensures.on in
    let p = play_on s.cables.now s.script.now s.game c.take.new.self s.at c.in_ok-thing.to c.in_ok-thing.thing
    c.if-self-at.false o.0 (sym c.in_ok-thing.ensures.is) (sym c.in_default.ensures) c.in_ok-take.ensures s.counted s.past in
    record { counted = p.0; past = p.1 }
