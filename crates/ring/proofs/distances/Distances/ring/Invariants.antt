-- What the loop of `ring` keeps, and that it ends: the number falls. Assumes nothing.
use Rattle.std.proofs.Common.{◌≡◌, ℕ, ◌<◌, ◌≤◌, List, [], ◌∷◌, ◌++◌, get_or, vec_items}
use Rattle.ring.specs.Graph.{FeedsIn}
use Rattle.ring.specs.Down.{Lowest, LowestRing}
use Rattle.ring.proofs.distances.Distances.ring.Given as goal

-- whatever goes on from here as the first in order is with what stands already the first in order
abbrev pub invariant-loop-next : goal.invariant-loop-next
invariant-loop-next l = record {
  inside : l.at < l.self.graph.now.channels;
  some : 0 < get_or l.self.numbers.items l.at 0;
  most : get_or l.self.numbers.items l.at 0 ≤ get_or l.self.numbers.items l.self.to 0;
  front : (us : List ℕ) × (vec_items l.ring ≡ us ++ (l.at ∷ [])) ×
      ((es : List ℕ) → Lowest (FeedsIn l.self.graph.now) l.self.to l.self.numbers.items l.at es →
      LowestRing (FeedsIn l.self.graph.now) l.self.to l.self.numbers.items (us ++ (l.at ∷ es)));
}

abbrev pub decreases-loop-next : goal.decreases-loop-next
decreases-loop-next l = get_or l.self.numbers.items l.at 0
