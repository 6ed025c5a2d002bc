use Rattle.graph.proofs.Central.{root_law}
use Rattle.graph.proofs.laws.root_is_central.Goals as goal

pub returns : goal.returns
returns c = root_law
