use Rattle.cases.proofs.Rows.{cases_hold}
use Rattle.cases.proofs.cases_hold.Goals as goal

pub returns : goal.returns
returns c = cases_hold
