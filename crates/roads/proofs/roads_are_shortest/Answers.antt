use Rattle.std.proofs.Common.{ℕ}
use Rattle.roads.proofs.Roads.{shortest_roads}
use Rattle.roads.proofs.roads_are_shortest.Goals as goal

pub returns : goal.returns
returns c = shortest_roads ℕ
