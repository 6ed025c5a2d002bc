use Rattle.table.proofs.Served.{here_right}
use Rattle.table.proofs.laws.here_where_it_should.Goals as goal

pub returns : goal.returns
returns c = here_right
