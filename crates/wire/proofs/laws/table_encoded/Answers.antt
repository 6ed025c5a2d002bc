-- The theorem. Assumes nothing.
use Rattle.wire.proofs.TableLaws.{table_encoded}
use Rattle.wire.proofs.laws.table_encoded.Goals as goal

pub returns : goal.returns
returns c = table_encoded
