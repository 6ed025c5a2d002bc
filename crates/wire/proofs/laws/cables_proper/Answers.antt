use Rattle.wire.proofs.CableLaws.{cables_proper}
use Rattle.wire.proofs.laws.cables_proper.Goals as goal

pub returns : goal.returns
returns c = cables_proper
