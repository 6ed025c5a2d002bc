use Rattle.machine.proofs.Whole.{whole}
use Rattle.machine.proofs.whole_promise.Goals as goal

pub returns : goal.returns
returns c = whole
