use Rattle.std.proofs.Common.{◌≡◌, ℕ, ◌+◌, ◌*◌, ◌<◌, get_or}
use Rattle.net.specs.declared.Entry.TheVariants.{Here}
use Rattle.tree.specs.Planted.{graph_in, up_in}
use Rattle.table.specs.Kept.{kept}
use Rattle.table.proofs.sweep.Onward.fill_table.Given as goal

abbrev pub invariant-loop-c : goal.invariant-loop-c
invariant-loop-c l = (i p : ℕ) → i < l.c → p < (graph_in l.self.swept.tree.now).n → get_or l.table (i * (graph_in l.self.swept.tree.now).n + p) Here ≡ kept (graph_in l.self.swept.tree.now) (up_in l.self.swept.tree.now) i p
