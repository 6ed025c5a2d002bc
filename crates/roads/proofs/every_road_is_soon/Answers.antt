use Rattle.roads.proofs.Soon.{shortest_soon}
use Rattle.roads.proofs.every_road_is_soon.Goals as goal

pub returns : goal.returns
returns c = shortest_soon
