use Rattle.graph.proofs.Central.{distance_law}
use Rattle.graph.proofs.laws.distance_is_shortest.Goals as goal

pub returns : goal.returns
returns c = distance_law
