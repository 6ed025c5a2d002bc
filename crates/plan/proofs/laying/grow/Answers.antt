-- The tree of an accepted list, with the root of its cabling. Assumes nothing.
use Rattle.std.proofs.Common.{◌≡◌, MatchResult, rules}
use Rattle.std.proofs.lemmas.Result.{MatchResult-weaker}
use Rattle.tree.specs.Made.{Planted}
use Rattle.wire.specs.Listed.{listed}
use Rattle.wire.specs.declared.fault.WireError.TheVariants.{Memory}
use Rattle.plan.proofs.Accepted.{grown}
use Rattle.plan.proofs.laying.grow.Goals as goal

pub returns : goal.returns
returns c =
    let g = c.in_ok-cabling.cabling in
    let made : MatchResult c.map_err.result (λ t. Planted g g.root t) (λ e. e ≡ Memory) = search rules in
    MatchResult-weaker c.map_err.result made
    (λ t p. grown (listed c.args.list.now) g t c.in_ok-cabling.ensures p) (λ _ q. rw q tt)
