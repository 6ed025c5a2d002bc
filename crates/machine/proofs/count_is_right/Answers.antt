use Rattle.machine.proofs.Counts.{count_right}
use Rattle.machine.proofs.count_is_right.Goals as goal

pub returns : goal.returns
returns c = count_right
