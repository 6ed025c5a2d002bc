-- The value is the definition's, so it is one that can be written. Assumes nothing.
use Rattle.std.proofs.Common.{rules}
use Rattle.wire.proofs.TableLaws.{table_shaped}
use Rattle.wire.proofs.table.read_table.Goals as goal

pub returns-clause-shaped : goal.returns-clause-shaped
returns-clause-shaped c = table_shaped c.args.bytes.now _ (search rules)
