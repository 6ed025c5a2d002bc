use Rattle.std.proofs.Common.{sym, arith}
use Rattle.store.proofs.Fits.{items_count}
use Rattle.std.proofs.lemmas.Option.{slice_get_past}
use Rattle.store.proofs.Rings.{ring_get}
use Rattle.store.specs.Store.{items}
use Rattle.store.proofs.store.Store.get.Goals as goal

pub returns-then-from-i : goal.returns-then-from-i
returns-then-from-i c =
    let s = c.args.self.now in
    let e = items_count s in
    sym (slice_get_past (items s) c.args.i (omega arith))

pub returns : goal.returns
unfolding items
returns c =
    let s = c.args.self.now in
    ring_get s.blocks s.first s.count c.args.i _ _ s.whole s.starts s.fits (omega arith) c.place.ensures
