-- The theorem. Assumes nothing.
use Rattle.wire.proofs.CauseLaws.{frame_lowest}
use Rattle.wire.proofs.laws.frame_lowest.Goals as goal

pub returns : goal.returns
returns c = frame_lowest
