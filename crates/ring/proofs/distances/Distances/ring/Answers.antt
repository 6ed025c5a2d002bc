-- One member more, and the last one. Assumes nothing.
use Rattle.std.proofs.Common.{get_or, vec_items, arith}
use Rattle.ring.specs.Graph.{FeedsIn}
use Rattle.ring.proofs.Falling.{walk_more, walk_last}
use Rattle.ring.proofs.distances.Distances.ring.Goals as goal

pub loop-next-preserved : goal.loop-next-preserved
loop-next-preserved c =
    let s = c.args.self.now in
    let i = c.loop-next.invariant in
    let o = c.in-Some.ensures in
    let some = i.some in
    let most = i.most in
    let nearer = o.goes.nearer in
    record {
      inside = o.goes.hands.1;
      some = o.goes.some;
      most = omega arith;
      front = (
        vec_items c.loop-next.ring,
        c.in_ok-push.ensures.items,
        walk_more (FeedsIn s.graph.now) s.to (get_or s.numbers.items s.to 0) s.numbers.items c.requires.near c.loop-next.at c.in-Some.next
            i.front.0 (vec_items c.loop-next.ring) i.front.1 i.most o i.front.2,
      );
    }

pub returns : goal.returns
returns c =
    let s = c.args.self.now in
    let i = c.loop-next.invariant in
    walk_last (FeedsIn s.graph.now) s.to (get_or s.numbers.items s.to 0) s.numbers.items c.requires.near c.loop-next.at
    i.front.0 (vec_items c.loop-next.ring) i.front.1
    c.in_default.ensures i.front.2
