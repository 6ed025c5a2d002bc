-- What is proved of the table: its roads are legal, shortest and lowest at each step; the net is good and leads every block to its place. Assumes nothing.
use Rattle.std.specs.Prelude.{◌≡◌, ℕ, ◌+◌, ◌<◌, ◌≤◌, Bool, true, false, ◌⊎◌, List, [], ◌∷◌, length}
use Rattle.net.specs.declared.Entry.{Entry}
use Rattle.net.specs.declared.Entry.TheVariants.{Here, Link}
use Rattle.net.specs.declared.layout.Layout.{Layout}
use Rattle.net.specs.Layout.{Sized, net_of}
use Rattle.net.specs.Net.{Good, Leads}
use Rattle.roads.specs.Roads.{Road}
use Rattle.graph.specs.Graph.{Graph}
use Rattle.graph.specs.Tree.{level}
use Rattle.tree.specs.Legal.{goes_up, legal, stands}
use Rattle.tree.specs.Laws.{Sound}
use Rattle.table.specs.Kept.{start, met, kept}
use Rattle.table.specs.Laid.{Laid}

-- going by table t, a block for place p takes the links ks from channel c, and is then here
pub data Takes (t : ℕ → ℕ → Entry) (p : ℕ) : ℕ → List ℕ → Type 0 where
  come : {c : ℕ} → t c p ≡ Here → Takes t p c []
  next : {c k : ℕ} {ks : List ℕ} → t c p ≡ Link k → Takes t p k ks → Takes t p c (k ∷ ks)

-- of the shortest legal roads from a state, ks takes the lowest link at each step
pub data Lowest (g : Graph) (up : ℕ → Bool) (p : ℕ) : Bool × ℕ → List ℕ → Type 0 where
  end : {x : Bool × ℕ} → Lowest g up p x []
  low : {x : Bool × ℕ} {k : ℕ} {ks : List ℕ} →
      ((j : ℕ) (js : List ℕ) → Road (legal g up) (stands p) x (j ∷ js) → length js ≤ length ks → k ≤ j) →
      Lowest g up p (up k, g.to k) ks → Lowest g up p x (k ∷ ks)

-- the road that the table walks from door s to place p
pub record Walked (g : Graph) (up : ℕ → Bool) (s p : ℕ) : Type 0 where
  pub road : List ℕ
  pub taken : Takes (kept g up) p (g.links + s) road
  pub is_legal : Road (legal g up) (stands p) (true, s) road
  pub short : (ks : List ℕ) → Road (legal g up) (stands p) (true, s) ks → length road ≤ length ks
  pub lowest : Lowest g up p (true, s) road

abbrev pub RoadsAreRight : Type 0
RoadsAreRight = (g : Graph) → Sound g → (r : ℕ) → r < g.n → (s p : ℕ) → s < g.n → p < g.n → Walked g (goes_up g (level g r)) s p

-- An entry is here exactly at the channel's own switch and where no block from a door comes.
abbrev pub HereWhereItShould : Type 0
HereWhereItShould =
    (g : Graph) → Sound g → (r : ℕ) → r < g.n → (c p : ℕ) → c < g.links + g.n → p < g.n →
    (kept g (goes_up g (level g r)) c p ≡ Here → ((start g (goes_up g (level g r)) c).1 ≡ p) ⊎ (met g (goes_up g (level g r)) c p ≡ false)) ×
    (((start g (goes_up g (level g r)) c).1 ≡ p) ⊎ (met g (goes_up g (level g r)) c p ≡ false) → kept g (goes_up g (level g r)) c p ≡ Here)

-- What is promised of a layout: it can be served, its net is good, and every door's blocks come to every place.
pub record Serves (g : Graph) (l : Layout) : Type 0 where
  pub sized : Sized l
  pub good : Good (net_of l)
  pub leads : (s p : ℕ) → s < g.n → p < g.n → Leads (net_of l) p (g.links + s)

abbrev pub LaidIsGood : Type 0
LaidIsGood =
    (g : Graph) → Sound g → g.n ≤ 64 → g.links ≤ 256 → (r : ℕ) → r < g.n → (room : ℕ) → 0 < room → room ≤ 32 →
    (l : Layout) → Laid g r room l → Serves g l
