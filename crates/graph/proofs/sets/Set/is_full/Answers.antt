use Rattle.std.proofs.Common.{ℕ, ap, ◌∙◌}
use Rattle.roads.specs.Numbers.{every}
use Rattle.graph.specs.Sets.{has}
use Rattle.graph.proofs.Bits.{full_test, ones_of}
use Rattle.graph.proofs.sets.Set.is_full.Goals as goal

pub returns : goal.returns
returns c = full_test c.args.n c.self.inside.bits _ (ones_of c.args.n c.requires.0 c.requires.1) ∙ ap (λ (w : ℕ). every (has w) c.args.n) c.self.view_is
