use Rattle.machine.proofs.Road.{at_place}
use Rattle.machine.proofs.at_place.Goals as goal

pub returns : goal.returns
returns c = at_place
