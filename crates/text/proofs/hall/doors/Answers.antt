use Rattle.std.proofs.Common.{refl, rules}
use Rattle.std.proofs.lemmas.Result.{IfOk-weaker}
use Rattle.text.specs.Laid.{door_one}
use Rattle.text.proofs.Chains.{below_written}
use Rattle.text.proofs.hall.doors.Goals as goal

pub returns : goal.returns
returns c =
    let h = c.args.hall.now in
    IfOk-weaker c.write_each.result _ _ (λ _ w. below_written _ (door_one h) h.bounds.plan.layout.doors w (search rules) c.map.ensures.closure (λ x. refl) (λ k x q e. search rules)) c.write_each.ensures
