use Rattle.net.proofs.Ranked.{in_order_of_rank}
use Rattle.machine.proofs.Counts.{count_right}
use Rattle.machine.proofs.Motion.{moves}
use Rattle.machine.proofs.never_still.Goals as goal

pub returns : goal.returns
returns c = moves in_order_of_rank count_right
