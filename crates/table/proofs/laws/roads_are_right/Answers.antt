use Rattle.table.proofs.Served.{roads_right}
use Rattle.table.proofs.laws.roads_are_right.Goals as goal

pub returns : goal.returns
returns c = roads_right
