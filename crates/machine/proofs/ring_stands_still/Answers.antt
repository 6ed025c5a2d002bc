use Rattle.machine.proofs.Stuck.{stands_still}
use Rattle.machine.proofs.ring_stands_still.Goals as goal

pub returns : goal.returns
returns c = stands_still
