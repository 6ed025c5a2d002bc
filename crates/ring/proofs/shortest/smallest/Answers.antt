-- None found means none; what is found is the smallest ring. Assumes nothing.
use Rattle.std.proofs.Common.{◌≡◌, ℕ, ◌<◌, Bor, List, Option, Some, get_or, vec_items, sym, ap, subst, ◌∙◌, arith}
use Rattle.ring.specs.declared.shortest.Best.{Best}
use Rattle.ring.specs.declared.dependencies.Dependencies.{Dependencies}
use Rattle.ring.specs.declared.distances.Distances.{Distances}
use Rattle.ring.specs.Down.{LowestRing}
use Rattle.ring.specs.Fewest.{FewestOf}
use Rattle.ring.specs.Graph.{FeedsIn}
use Rattle.ring.specs.Layers.{Near}
use Rattle.ring.specs.Ring.{Smallest}
use Rattle.ring.proofs.Least.{members_are, none_found, smallest_is}
use Rattle.ring.proofs.shortest.smallest.Goals as goal

-- the distances back to the lowest member of the best ring
module _ (g : Bor Dependencies) (o : Option Best) (b : Best) (d : Distances) (q : o ≡ Some b) (w : FewestOf (FeedsIn g.now) g.now.channels g.now.channels o)
    (to : d.to ≡ b.low) (same : d.graph ≡ g) (near : Near (FeedsIn g.now) b.low b.members (vec_items d.numbers)) where
  best : FewestOf (FeedsIn g.now) g.now.channels g.now.channels (Some b)
  best = subst (λ (o : Option Best). FewestOf (FeedsIn g.now) g.now.channels g.now.channels o) q w

  members : get_or (vec_items d.numbers) b.low 0 ≡ b.members
  members = members_are (FeedsIn g.now) g.now.channels b.low b.members (vec_items d.numbers) near best.0 best.1

  members_at : get_or (vec_items d.numbers) d.to 0 ≡ b.members
  members_at = ap (λ (i : ℕ). get_or (vec_items d.numbers) i 0) to ∙ members

  some_at : 0 < get_or (vec_items d.numbers) d.to 0
  some_at = let s = best.1.some in let m = members_at in omega arith

  near_at : Near (FeedsIn d.graph.now) d.to (get_or (vec_items d.numbers) d.to 0) (vec_items d.numbers)
  near_at = subst (λ (g : Bor Dependencies). Near (FeedsIn g.now) d.to (get_or (vec_items d.numbers) d.to 0) (vec_items d.numbers)) (sym same)
      (subst (λ (i : ℕ). Near (FeedsIn g.now) i (get_or (vec_items d.numbers) d.to 0) (vec_items d.numbers)) (sym to)
      (subst (λ (i : ℕ). Near (FeedsIn g.now) b.low i (vec_items d.numbers)) (sym members_at) near))

  smallest_at : (cs : List ℕ) → LowestRing (FeedsIn d.graph.now) d.to (vec_items d.numbers) cs → Smallest (FeedsIn g.now) cs
  smallest_at cs r =
      smallest_is (FeedsIn g.now) g.now.channels (λ x y h. h.0) b.low b.members (vec_items d.numbers) cs best.0 members best.1
      (subst (λ (i : ℕ). LowestRing (FeedsIn g.now) i (vec_items d.numbers) cs) to (subst (λ (g : Bor Dependencies). LowestRing (FeedsIn g.now) d.to (vec_items d.numbers) cs) same r))

pub returns-in_default : goal.returns-in_default
returns-in_default c =
    none_found (FeedsIn c.args.graph.now) c.args.graph.now.channels (λ x y h. h.0)
    (subst (λ (o : Option Best). FewestOf (FeedsIn c.args.graph.now) c.args.graph.now.channels c.args.graph.now.channels o) c.in_default.is c.in_ok-best.ensures)

pub ring-requires-clause-some : goal.ring-requires-clause-some
ring-requires-clause-some c =
    let e = c.back_to-back.ensures in
    some_at c.args.graph c.in_ok-best.field-0 c.in-Some.best c.back_to-back.result c.in-Some.is c.in_ok-best.ensures e.0 e.1 e.2

pub ring-requires-clause-near : goal.ring-requires-clause-near
ring-requires-clause-near c =
    let e = c.back_to-back.ensures in
    near_at c.args.graph c.in_ok-best.field-0 c.in-Some.best c.back_to-back.result c.in-Some.is c.in_ok-best.ensures e.0 e.1 e.2

pub returns : goal.returns
returns c =
    let e = c.back_to-back.ensures in
    smallest_at c.args.graph c.in_ok-best.field-0 c.in-Some.best c.back_to-back.result c.in-Some.is c.in_ok-best.ensures e.0 e.1 e.2 (vec_items c.in_ok-ring.field-0) c.in_ok-ring.ensures
