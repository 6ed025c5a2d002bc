use Rattle.std.proofs.Common.{refl}
use Rattle.store.proofs.Rings.{ring_none}
use Rattle.store.specs.Store.{items}
use Rattle.store.proofs.store.Store.new.Goals as goal

pub returns : goal.returns
unfolding items
returns c = ring_none _ 0 0 refl
