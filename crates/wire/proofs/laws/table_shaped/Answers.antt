use Rattle.wire.proofs.TableLaws.{table_shaped}
use Rattle.wire.proofs.laws.table_shaped.Goals as goal

pub returns : goal.returns
returns c = table_shaped
