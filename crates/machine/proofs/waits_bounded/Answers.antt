use Rattle.net.proofs.Ranked.{in_order_of_rank}
use Rattle.machine.proofs.Counts.{count_right}
use Rattle.machine.proofs.Waiting.{waits}
use Rattle.machine.proofs.waits_bounded.Goals as goal

pub returns : goal.returns
returns c = waits in_order_of_rank count_right
