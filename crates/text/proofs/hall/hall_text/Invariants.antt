use Rattle.std.proofs.Common.{◌≡◌, ℕ, List, ◌++◌, string_bytes}
use Rattle.text.specs.Texts.{below}
use Rattle.text.specs.Laid.{Ways, doors_text, head_text, links_text, roads_text, table_text}
use Rattle.text.proofs.hall.hall_text.Given as goal

abbrev pub invariant-loop-from : goal.invariant-loop-from
invariant-loop-from l = (way : ℕ → ℕ → List ℕ) → Ways l.hall way → string_bytes l.text ≡ (((head_text l.hall ++ links_text l.hall) ++ doors_text l.hall) ++ table_text l.hall) ++ below (roads_text l.hall way) l.from
