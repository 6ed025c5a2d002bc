use Rattle.tree.proofs.Rising.{ranks_rise}
use Rattle.tree.proofs.laws.ranks_rise.Goals as goal

pub returns : goal.returns
returns c = ranks_rise
