-- The theorem. Assumes nothing.
use Rattle.wire.proofs.CauseLaws.{cable_lowest}
use Rattle.wire.proofs.laws.cable_lowest.Goals as goal

pub returns : goal.returns
returns c = cable_lowest
