-- The theorem. Assumes nothing.
use Rattle.wire.proofs.CableLaws.{cables_cut}
use Rattle.wire.proofs.laws.cables_cut.Goals as goal

pub returns : goal.returns
returns c = cables_cut
