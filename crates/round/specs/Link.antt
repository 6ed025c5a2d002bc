-- What the machine knows of a link. Assumes nothing.
use Rattle.std.specs.Prelude.{ℕ, List}
use Rattle.net.specs.declared.Block.{Block}
use Rattle.store.specs.Credit.{credit_all, credit_free}
use Rattle.store.specs.Store.{items}
use Rattle.round.specs.declared.link.Link.{Link}

-- what stands in its store
abbrev pub queue_of : Link → List Block
queue_of l = items l.store

-- the places that its near end counts as free
abbrev pub free_of : Link → ℕ
free_of l = credit_free l.credit

-- all the places that its near end counts, free or not
abbrev pub size_of : Link → ℕ
size_of l = credit_all l.credit

-- the channel from which it looks round next
abbrev pub turn_of : Link → ℕ
turn_of l = l.turn
