-- The theorem. Assumes nothing.
use Rattle.wire.proofs.TableLaws.{table_back}
use Rattle.wire.proofs.laws.table_read_back.Goals as goal

pub returns : goal.returns
returns c = table_back
