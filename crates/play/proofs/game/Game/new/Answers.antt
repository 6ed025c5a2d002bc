use Rattle.std.proofs.Common.{◌≡◌, get_or, replicate, vec_items, ap, ◌∙◌, rules}
use Rattle.net.specs.declared.plan.Plan.{Plan}
use Rattle.net.specs.Layout.{net_of}
use Rattle.machine.specs.Round.{start}
use Rattle.round.specs.Running.{net_in, state_in}
use Rattle.play.proofs.Course.{all_zero, same_position}
use Rattle.play.proofs.Mapped.{same_value}
use Rattle.play.proofs.game.Game.new.Goals as goal

pub returns-clause-begins : goal.returns-clause-begins
returns-clause-begins c =
    let r = c.in_ok-running.running in
    let fs = vec_items c.in_ok-fresh.fresh in
    let e = same_value _ c.start.result r c.in_ok-running.ensures.cases in
    let a = rw e at c.start.ensures in
    let f : fs ≡ replicate c.args.plan.layout.doors 0 = search rules in
    let n : net_in r ≡ net_of c.args.plan.layout = ap (λ (p : Plan). net_of p.layout) a.0 in
    same_position (state_in r) (start (net_of c.args.plan.layout)) (λ d. get_or fs d 0) (λ d. 0) (a.1 ∙ ap start n) (all_zero fs c.args.plan.layout.doors f)
