-- The theorem. Assumes nothing.
use Rattle.wire.proofs.ThingLaws.{thing_cut}
use Rattle.wire.proofs.laws.thing_cut.Goals as goal

pub returns : goal.returns
returns c = thing_cut
