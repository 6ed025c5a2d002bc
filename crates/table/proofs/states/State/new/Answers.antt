use Rattle.graph.proofs.Bits.{has_shl}
use Rattle.table.proofs.states.State.new.Goals as goal

pub returns-clause-own : goal.returns-clause-own
returns-clause-own c = λ p. has_shl c.args.own p c.requires
