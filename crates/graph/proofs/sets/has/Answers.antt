use Rattle.std.proofs.Common.{sym, refl, ◌∙◌, arith}
use Rattle.std.proofs.lemmas.Bool.{le-ltb}
use Rattle.graph.specs.Sets.{has}
use Rattle.graph.proofs.Bits.{has_word}
use Rattle.graph.proofs.sets.has.Goals as goal

pub returns-then-k-lt64 : goal.returns-then-k-lt64
unfolding has
returns-then-k-lt64 c = refl

pub returns-else-k-lt64 : goal.returns-else-k-lt64
returns-else-k-lt64 c = le-ltb c.args.k 64 (omega arith) ∙ sym (has_word c.args.set c.args.k (omega arith) (omega arith))
