use Rattle.roads.proofs.Below.{least_is_least}
use Rattle.roads.proofs.least_is_least.Goals as goal

pub returns : goal.returns
returns c = least_is_least
