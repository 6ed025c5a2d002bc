use Rattle.table.proofs.Served.{laid_good}
use Rattle.table.proofs.laws.laid_is_good.Goals as goal

pub returns : goal.returns
returns c = laid_good
