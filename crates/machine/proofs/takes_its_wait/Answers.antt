use Rattle.machine.proofs.Late.{on_time}
use Rattle.machine.proofs.takes_its_wait.Goals as goal

pub returns : goal.returns
returns c = on_time
