-- Which channels hand blocks to which, as a graph says. Assumes nothing.
use Rattle.std.specs.Prelude.{◌≡◌, ℕ, ◌<◌, Bool, false, List, length, vec_items, Decides, slice_index_or}
use Rattle.net.specs.declared.Entry.{Entry}
use Rattle.ring.specs.declared.dependencies.Dependencies.{Dependencies}
use Rattle.ring.specs.Layers.{Feeds}
use Rattle.ring.specs.Table.{Hands}

-- y hands blocks to x
abbrev pub FeedsIn : Dependencies → ℕ → ℕ → Type 0
FeedsIn g = Feeds (vec_items g.marks) g.channels

-- the graph says just which channel of the table hands blocks to which
pub record Agrees (es : List Entry) (n m : ℕ) (g : Dependencies) : Type 0 where
  pub channels : g.channels ≡ n
  pub only : (y x : ℕ) → FeedsIn g y x → Hands es m y x
  pub each : (y x : ℕ) → Hands es m y x → FeedsIn g y x

-- the row of x says of each channel whether it hands blocks to x
pub record AreFeeders (g : Dependencies) (x : ℕ) (row : List Bool) : Type 0 where
  pub size : length row ≡ g.channels
  pub feed : (y : ℕ) → y < g.channels → Decides (slice_index_or row y false) (FeedsIn g y x)
