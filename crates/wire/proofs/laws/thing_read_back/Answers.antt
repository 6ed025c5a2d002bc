-- The theorem. Assumes nothing.
use Rattle.wire.proofs.ThingLaws.{thing_back}
use Rattle.wire.proofs.laws.thing_read_back.Goals as goal

pub returns : goal.returns
returns c = thing_back
