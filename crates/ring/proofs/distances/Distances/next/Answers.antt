-- The search over a range finds the next channel. Assumes nothing.
use Rattle.std.proofs.Common.{ℕ, get_or, rules, tests}
use Rattle.std.proofs.lemmas.Iterator.{first_from_Range}
use Rattle.ring.specs.Down.{GoesOn}
use Rattle.ring.specs.Graph.{FeedsIn}
use Rattle.ring.proofs.Falling.{next_found}
use Rattle.ring.proofs.distances.Distances.next.Goals as goal

pub returns : goal.returns
returns c =
    let s = c.args.self.now in
    let H : ℕ → ℕ → Type 0 = FeedsIn s.graph.now in
    next_found H s.to (get_or s.numbers.items s.to 0) s.numbers.items c.requires.near s.graph.now.channels (λ x y h. h.1) c.args.x c.requires.some c.requires.most c.find.result
    (first_from_Range _ _ _ _ (λ e. GoesOn H s.numbers.items c.args.x e) (λ e. GoesOn H s.numbers.items c.args.x e → ⊥) c.find.ensures.ran
    (λ e q k. search (rules, tests)) (λ e q k. search (rules, tests)))
