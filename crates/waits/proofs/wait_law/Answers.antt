use Rattle.waits.proofs.Fuel.{wait_law}
use Rattle.waits.proofs.wait_law.Goals as goal

pub returns : goal.returns
returns c = wait_law
