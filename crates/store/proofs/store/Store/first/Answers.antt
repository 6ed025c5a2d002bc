use Rattle.std.proofs.Common.{sym, ap, arith}
use Rattle.net.specs.Heads.{head_of}
use Rattle.store.proofs.Rings.{ring_none, ring_head}
use Rattle.store.specs.Store.{items}
use Rattle.store.proofs.store.Store.first.Goals as goal

pub returns-then-self-eq0 : goal.returns-then-self-eq0
unfolding items
returns-then-self-eq0 c =
    let s = c.args.self.now in
    sym (ap head_of (ring_none s.blocks s.first s.count c.if-self-eq0.true))

pub returns : goal.returns
unfolding items
returns c =
    let s = c.args.self.now in
    ring_head s.blocks s.first s.count _ (omega arith) (omega arith)
