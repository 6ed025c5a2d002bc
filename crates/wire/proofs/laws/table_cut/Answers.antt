-- The theorem. Assumes nothing.
use Rattle.wire.proofs.TableLaws.{table_cut}
use Rattle.wire.proofs.laws.table_cut.Goals as goal

pub returns : goal.returns
returns c = table_cut
