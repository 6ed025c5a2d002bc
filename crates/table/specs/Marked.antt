-- Which links are marked as met, while roads from doors are walked; and what is made of a tree. Assumes nothing.
use Rattle.std.specs.Prelude.{◌≡◌, ℕ, ◌+◌, ◌*◌, ◌<◌, Bool, true, List, length, slice_index, slice_index_or}
use Rattle.net.specs.declared.Entry.{Entry}
use Rattle.net.specs.declared.Entry.TheVariants.{Here, Link}
use Rattle.graph.specs.Graph.{Graph}
use Rattle.graph.specs.Sets.{has}
use Rattle.tree.specs.Planted.{graph_in, up_in}
use Rattle.tree.specs.declared.planted.Tree.{Tree}
use Rattle.table.specs.Kept.{channels, whole, met, kept}

-- link k is marked for place p
abbrev pub marked : List ℕ → ℕ → ℕ → Bool
marked ms k p = has (slice_index ms k) p

-- what is marked is met
abbrev pub OnlyMet : Graph → (ℕ → Bool) → List ℕ → Type 0
OnlyMet g up ms = (k p : ℕ) → k < g.links → p < g.n → marked ms k p ≡ true → met g up k p ≡ true

-- where a marked link's entry leads is marked
abbrev pub Closed : Graph → (ℕ → Bool) → List ℕ → Type 0
Closed g up ms = (k p d : ℕ) → k < g.links → p < g.n → marked ms k p ≡ true → whole g up k p ≡ Link d → marked ms d p ≡ true

-- where the entry of door s for place p leads is marked
abbrev pub Opened : Graph → (ℕ → Bool) → List ℕ → ℕ → ℕ → Type 0
Opened g up ms s p = (d : ℕ) → whole g up (g.links + s) p ≡ Link d → marked ms d p ≡ true

abbrev pub More : List ℕ → List ℕ → Type 0
More ms ns = (k p : ℕ) → marked ms k p ≡ true → marked ns k p ≡ true

-- what the roads from door s leave, which were walked to the places that pass P
pub record Walks (g : Graph) (up : ℕ → Bool) (s : ℕ) (P : ℕ → Type 0) (ms ns : List ℕ) : Type 0 where
  pub more : More ms ns
  pub only : OnlyMet g up ms → OnlyMet g up ns
  pub closed : Closed g up ms → Closed g up ns
  pub opened : (p : ℕ) → P p → Opened g up ns s p

-- for each link the places for which blocks from some door come to it
pub record AllMet (g : Graph) (up : ℕ → Bool) (ms : List ℕ) : Type 0 where
  pub size : length ms ≡ g.links
  pub marks : (k p : ℕ) → k < g.links → p < g.n → marked ms k p ≡ met g up k p

-- every row is the definition's
abbrev pub Filled : Graph → (ℕ → Bool) → List Entry → Type 0
Filled g up es = (c p : ℕ) → c < channels g → p < g.n → slice_index_or es (c * g.n + p) Here ≡ kept g up c p

-- the whole table of a tree
pub record Tabled (t : Tree) (es : List Entry) : Type 0 where
  pub size : length es ≡ channels (graph_in t) * (graph_in t).n
  pub entries : Filled (graph_in t) (up_in t) es
