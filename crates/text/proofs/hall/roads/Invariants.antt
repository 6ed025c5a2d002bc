use Rattle.std.proofs.Common.{ℕ, List}
use Rattle.text.specs.Texts.{Adds, below}
use Rattle.text.specs.Laid.{Ways, road_one}
use Rattle.text.proofs.hall.roads.Given as goal

abbrev pub invariant-loop-place : goal.invariant-loop-place
invariant-loop-place l = (way : ℕ → ℕ → List ℕ) → Ways l.hall way → Adds l.initial.text l.text (below (road_one l.hall way l.from) l.place)
