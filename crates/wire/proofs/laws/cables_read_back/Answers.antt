-- The theorem. Assumes nothing.
use Rattle.wire.proofs.CableLaws.{cables_back}
use Rattle.wire.proofs.laws.cables_read_back.Goals as goal

pub returns : goal.returns
returns c = cables_back
