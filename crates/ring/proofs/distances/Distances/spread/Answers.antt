-- One channel more is looked at. Assumes nothing.
use Rattle.std.proofs.Common.{◌≡◌, ℕ, ◌+◌, ◌<◌, Bor, false, cond, ◌&&◌, eqb, get_or, length, vec_items, ap, subst, arith}
use Rattle.std.proofs.lemmas.List.{get_or_read}
use Rattle.ring.specs.declared.dependencies.Dependencies.{Dependencies}
use Rattle.ring.specs.Graph.{FeedsIn}
use Rattle.ring.proofs.Marks.{spread_more}
use Rattle.ring.proofs.distances.Distances.spread.Goals as goal

pub loop-y-preserved : goal.loop-y-preserved
loop-y-preserved c =
    let i = c.loop-y.invariant in
    let s = c.loop-y.self in
    let g = c.args.self.now.graph.now in
    let a = vec_items s.numbers in
    let y = c.loop-y.y in
    let hands = get_or c.feeders-feeders.result.now y false in
    let n = ap (λ (h : Bor Dependencies). h.now.channels) i.graph in
    let in_a : y < length a = omega (arith, s.numbers.ok.0, s.sized) in
    let at : c.index.result.now ≡ get_or a y 0 = get_or_read a y _ in_a c.index.ensures 0 in
    let feed = c.feeders-feeders.ensures.feed y c.loop-y-test.true in
    let marked : c.marked.result ≡ cond (hands && eqb (get_or a y 0) 0) (c.args.k + 1) (get_or a y 0) =
    subst (λ (m : ℕ). c.marked.result ≡ cond (hands && eqb m 0) (c.args.k + 1) m) at c.marked.ensures in
    record {
      to = i.to;
      graph = i.graph;
      spread = spread_more (FeedsIn g) c.args.self.now.to c.args.k c.args.x y (vec_items c.args.self.now.numbers) a hands c.marked.result
          c.requires.source (omega arith) in_a feed.0 feed.1 marked i.spread;
    }
