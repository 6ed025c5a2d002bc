-- What the states of a sweep hold while legal roads are looked for, layer by layer and link by link. Assumes nothing.
use Rattle.std.specs.Prelude.{◌≡◌, ℕ, ◌+◌, ◌-◌, ◌<◌, Bool, true, false, cond, not, ◌&&◌, ◌||◌, List, [], map, vec_items, ◌≢◌, bit_or, nat_lt, slice_index, slice_index_or}
use Rattle.net.specs.declared.Entry.{Entry}
use Rattle.net.specs.declared.Entry.TheVariants.{Here, Link}
use Rattle.roads.specs.Numbers.{some}
use Rattle.roads.specs.Roads.{within}
use Rattle.graph.specs.Graph.{Graph}
use Rattle.graph.specs.Sets.{has}
use Rattle.tree.specs.Legal.{legal, stands}
use Rattle.table.specs.declared.states.State.{State}
use Rattle.table.specs.Kept.{onward}

-- the state that stands at index i: switch i while links up may be taken, and n + s for switch s after a link down
abbrev pub state_of : ℕ → ℕ → Bool × ℕ
state_of n i = cond (nat_lt i n) (true, i) (false, i - n)

-- the index of a state
abbrev pub index_of : ℕ → Bool → ℕ → ℕ
index_of n up s = cond up s (n + s)

-- the places that the state at index i has reached, and those that it had reached a layer before
abbrev pub reached_at : List State → ℕ → ℕ
reached_at ss i = slice_index (map (λ s. s.reached) ss) i

abbrev pub before_at : List State → ℕ → ℕ
before_at ss i = slice_index (map (λ s. s.before) ss) i

-- the row of the state at index i, and how it goes on to place p
abbrev pub row_at : List State → ℕ → List Entry
row_at ss i = slice_index_or (map (λ s. vec_items s.row) ss) i []

abbrev pub cell_at : List State → ℕ → ℕ → Entry
cell_at ss i p = slice_index_or (row_at ss i) p Here

-- within j links, or by one of the first k links to a state that is
abbrev pub reached_by : Graph → (ℕ → Bool) → ℕ → ℕ → ℕ → Bool × ℕ → Bool
reached_by g up p j k x =
    within (legal g up) (stands p) j x ||
    some (λ l. let r = within (legal g up) (stands p) j (up l, g.to l) in (legal g up).may x l && r) k

-- layer j, with the first k links looked at, at the state of index i: its set has the places reached, and its row how to go on to them
pub record Cell (g : Graph) (up : ℕ → Bool) (j k : ℕ) (ss : List State) (i : ℕ) : Type 0 where
  pub reached : (p : ℕ) → p < g.n → has (reached_at ss i) p ≡ reached_by g up p j k (state_of g.n i)
  pub entry : (p : ℕ) → p < g.n → cell_at ss i p ≡ cond (has (reached_at ss i) p) (onward g up p (state_of g.n i)) Here

abbrev pub Layer : Graph → (ℕ → Bool) → ℕ → ℕ → List State → Type 0
Layer g up j k ss = (i : ℕ) → i < g.n + g.n → Cell g up j k ss i

-- the sets of layer j stand beside
abbrev pub Held : Graph → (ℕ → Bool) → ℕ → List State → Type 0
Held g up j ss = (i p : ℕ) → i < g.n + g.n → p < g.n → has (before_at ss i) p ≡ within (legal g up) (stands p) j (state_of g.n i)

-- a link from state x to state y was looked at: what y had reached is added to x's set, and where that is new, x's row says so
pub record Relaxed (n : ℕ) (ss : List State) (x y k : ℕ) (ss' : List State) : Type 0 where
  pub before : (i : ℕ) → before_at ss' i ≡ before_at ss i
  pub added : reached_at ss' x ≡ bit_or (reached_at ss x) (before_at ss y)
  pub other : (i : ℕ) → (i ≢ x) → reached_at ss' i ≡ reached_at ss i
  pub row : (p : ℕ) → p < n → cell_at ss' x p ≡ cond (has (before_at ss y) p && not (has (reached_at ss x) p)) (Link k) (cell_at ss x p)
  pub rest : (i p : ℕ) → (i ≢ x) → cell_at ss' i p ≡ cell_at ss i p

-- the rows say how to go on from every state to every place
abbrev pub Found : Graph → (ℕ → Bool) → List State → Type 0
Found g up ss = (i p : ℕ) → i < g.n + g.n → p < g.n → cell_at ss i p ≡ onward g up p (state_of g.n i)
