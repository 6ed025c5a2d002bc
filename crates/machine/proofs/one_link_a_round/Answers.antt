use Rattle.net.proofs.Ranked.{in_order_of_rank}
use Rattle.machine.proofs.OneLink.{one_link}
use Rattle.machine.proofs.one_link_a_round.Goals as goal

pub returns : goal.returns
returns c = one_link in_order_of_rank
