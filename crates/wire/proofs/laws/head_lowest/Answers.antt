-- The theorem. Assumes nothing.
use Rattle.wire.proofs.CauseLaws.{head_lowest}
use Rattle.wire.proofs.laws.head_lowest.Goals as goal

pub returns : goal.returns
returns c = head_lowest
