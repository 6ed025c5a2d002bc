-- How much a store holds, for its users.
use Rattle.std.proofs.Common.{◌≡◌, ◌≤◌, length, arith}
use Rattle.store.specs.declared.store.Store.{Store}
use Rattle.store.specs.Store.{items}
use Rattle.store.proofs.Rings.{length_ring}

-- as many as it counts
pub items_count : (s : Store) → length (items s) ≡ s.count
unfolding items
items_count s = length_ring s.blocks s.first s.count (omega arith) (omega arith)

-- never more than its places
pub items_fit : (s : Store) → length (items s) ≤ 32
items_fit s = let e = items_count s in omega arith
