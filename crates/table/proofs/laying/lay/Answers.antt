use Rattle.std.proofs.Common.{refl, arith}
use Rattle.table.proofs.Whole.{laid_out}
use Rattle.table.proofs.laying.lay.Goals as goal

pub returns : goal.returns
returns c = laid_out c.args.tree.now _ c.args.room (omega arith) (omega arith) c.links.ensures refl refl refl c.in_ok-table_of.ensures c.in_ok-ranks_of.ensures c.in_ok-ends_of.ensures
