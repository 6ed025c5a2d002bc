-- After the last layer, or the first that no channel is in, the numbers are right up to `most`. Assumes nothing.
use Rattle.std.proofs.Common.{◌≡◌, ℕ, ◌+◌, ◌≤◌, Bor, subst, vec_items, arith}
use Rattle.ring.specs.declared.dependencies.Dependencies.{Dependencies}
use Rattle.ring.specs.Graph.{FeedsIn}
use Rattle.ring.specs.Layers.{Near}
use Rattle.ring.proofs.Marks.{no_more}
use Rattle.ring.proofs.distances.Distances.fill.Goals as goal

pub returns-then-not-layer-clause-near : goal.returns-then-not-layer-clause-near
returns-then-not-layer-clause-near c =
    let i = c.loop-k.invariant in
    let H : ℕ → ℕ → Type 0 = FeedsIn c.args.self.now.graph.now in
    let a = vec_items c.layer.new.self.numbers in
    let k = c.loop-k.k in
    let l : k + 1 ≤ c.args.most = omega arith in
    let near : Near H c.args.self.now.to (k + 1) a =
    subst (λ (t : ℕ). Near H t (k + 1) a) i.to (subst (λ (g : Bor Dependencies). Near (FeedsIn g.now) c.loop-k.self.to (k + 1) a) i.graph c.layer.ensures.near) in
    no_more H c.args.self.now.to k a (omega arith) near (c.layer.ensures.none c.if-not-layer.true) c.args.most l

pub returns-clause-near : goal.returns-clause-near
returns-clause-near c =
    let e : c.loop-k.k ≡ c.args.most = omega arith in
    subst (λ (k : ℕ). Near (FeedsIn c.args.self.now.graph.now) c.args.self.now.to k (vec_items c.loop-k.self.numbers)) e c.loop-k.invariant.near
