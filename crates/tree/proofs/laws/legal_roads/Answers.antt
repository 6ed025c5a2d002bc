use Rattle.tree.proofs.Ways.{legal_roads}
use Rattle.tree.proofs.laws.legal_roads.Goals as goal

pub returns : goal.returns
returns c = legal_roads
