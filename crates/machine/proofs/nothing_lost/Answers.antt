use Rattle.machine.proofs.Conserved.{conserved}
use Rattle.machine.proofs.nothing_lost.Goals as goal

pub returns : goal.returns
returns c = conserved
