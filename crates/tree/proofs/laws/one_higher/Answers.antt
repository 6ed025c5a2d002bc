use Rattle.tree.proofs.Higher.{one_higher}
use Rattle.tree.proofs.laws.one_higher.Goals as goal

pub returns : goal.returns
returns c = one_higher
