use Rattle.waits.proofs.Fuel.{patience_law}
use Rattle.waits.proofs.Working.{largest_law}
use Rattle.waits.proofs.patience_law.Goals as goal

pub returns : goal.returns
returns c = record { equation = patience_law; largest = largest_law }
