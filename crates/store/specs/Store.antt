-- What a store holds, oldest first. Assumes nothing.
use Rattle.std.specs.Prelude.{List}
use Rattle.net.specs.declared.Block.{Block}
use Rattle.store.specs.declared.store.Store.{Store}
use Rattle.store.specs.Ring.{ring_of}

unfoldable pub items : Store → List Block
items s = ring_of s.blocks s.first s.count
