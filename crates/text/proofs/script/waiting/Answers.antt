use Rattle.std.proofs.Common.{refl, rules}
use Rattle.std.proofs.lemmas.Result.{IfOk-weaker}
use Rattle.round.specs.Running.{net_in}
use Rattle.text.specs.Plays.{waiting_one}
use Rattle.text.proofs.Chains.{below_written}
use Rattle.text.proofs.script.waiting.Goals as goal

pub returns : goal.returns
returns c =
    let g = c.args.running.now in
    IfOk-weaker c.write_each.result _ _ (λ _ w. below_written _ (waiting_one g) (net_in g).doors w (search rules) c.map.ensures.closure (λ x. refl) (λ k x q e. search rules)) c.write_each.ensures
