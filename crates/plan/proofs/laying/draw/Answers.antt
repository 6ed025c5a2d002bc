-- The plan of a layout that was laid out of a tree. Assumes nothing.
use Rattle.std.proofs.Common.{◌≡◌, MatchResult, rules}
use Rattle.std.proofs.lemmas.Result.{MatchResult-weaker}
use Rattle.table.specs.Promised.{LaidOut}
use Rattle.wire.specs.declared.fault.WireError.TheVariants.{Memory}
use Rattle.plan.proofs.Accepted.{drawn}
use Rattle.plan.proofs.laying.draw.Goals as goal

pub returns : goal.returns
returns c =
    let laid : LaidOut c.args.tree.now c.args.room c.in_ok-layout.layout = c.in_ok-layout.ensures in
    let made : MatchResult c.map_err.result (λ p. p.layout ≡ c.in_ok-layout.layout) (λ e. e ≡ Memory) = search rules in
    MatchResult-weaker c.map_err.result made
    (λ p e. drawn c.args.tree.now c.args.room c.in_ok-layout.layout p laid e) (λ _ e. e)
