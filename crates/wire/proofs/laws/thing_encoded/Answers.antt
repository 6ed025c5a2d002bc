-- The theorem. Assumes nothing.
use Rattle.wire.proofs.ThingLaws.{thing_encoded}
use Rattle.wire.proofs.laws.thing_encoded.Goals as goal

pub returns : goal.returns
returns c = thing_encoded
