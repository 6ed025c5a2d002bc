use Rattle.std.proofs.Common.{◌≡◌, [], sym, refl, ap, ◌∙◌, arith}
use Rattle.net.specs.Heads.{head_of, tail_of}
use Rattle.store.proofs.Rings.{ring_none, ring_head, ring_tail}
use Rattle.store.specs.Store.{items}
use Rattle.store.proofs.store.Store.pop.Goals as goal

pub returns-then-self-eq0 : goal.returns-then-self-eq0
unfolding items
returns-then-self-eq0 c =
    let s = c.args.self.now in
    let e : items s ≡ [] = ring_none s.blocks s.first s.count c.if-self-eq0.true in
    record { oldest = sym (ap head_of e); after = e ∙ sym (ap tail_of e) }

pub returns : goal.returns
unfolding items
returns c =
    let s = c.args.self.now in
    record {
      oldest = ring_head s.blocks s.first s.count _ (omega arith) (omega arith);
      after = ring_tail s.blocks s.first _ s.count (record { door = 0; place = 0; name = 0 }) s.whole s.starts (omega arith) s.fits refl;
    }
