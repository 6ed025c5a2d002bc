use Rattle.machine.proofs.InOrder.{in_order}
use Rattle.machine.proofs.in_order.Goals as goal

pub returns : goal.returns
returns c = in_order
