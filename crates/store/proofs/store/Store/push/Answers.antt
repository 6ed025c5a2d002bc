use Rattle.std.proofs.Common.{sym, refl, arith}
use Rattle.std.proofs.lemmas.Bool.{lt-ltb, le-ltb}
use Rattle.store.proofs.Fits.{items_count}
use Rattle.store.proofs.Rings.{ring_push}
use Rattle.store.specs.Store.{items}
use Rattle.store.proofs.store.Store.push.Goals as goal

pub returns-then-self-eq-SIZE : goal.returns-then-self-eq-SIZE
returns-then-self-eq-SIZE c =
    let e = items_count c.args.self.now in
    record { taken = sym (le-ltb _ 32 (omega arith)); after = refl; value_returned = refl }

pub returns : goal.returns
unfolding items
returns c =
    let s = c.args.self.now in
    let e = items_count s in
    record {
      taken = sym (lt-ltb _ 32 (omega arith));
      after = ring_push s.blocks s.first s.count _ c.args.b s.whole s.starts (omega arith) refl;
      value_returned = tt;
    }
