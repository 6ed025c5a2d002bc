use Rattle.waits.proofs.StarWorked.{star_worked}
use Rattle.waits.proofs.star_waits.Goals as goal

pub returns : goal.returns
returns c = star_worked
