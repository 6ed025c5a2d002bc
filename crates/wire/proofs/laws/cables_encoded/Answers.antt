-- The theorem. Assumes nothing.
use Rattle.wire.proofs.CableLaws.{cables_encoded}
use Rattle.wire.proofs.laws.cables_encoded.Goals as goal

pub returns : goal.returns
returns c = cables_encoded
