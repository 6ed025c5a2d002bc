-- The table of a tree: here at the own switch, else the first link of a shortest legal road; and of these entries those that a block from a door can meet. Assumes nothing.
use Rattle.std.specs.Prelude.{ℕ, zero, suc, ◌+◌, ◌-◌, ◌*◌, Bool, true, false, cond, ◌||◌, ◌==◌, nat_lt}
use Rattle.net.specs.declared.Entry.{Entry}
use Rattle.net.specs.declared.Entry.TheVariants.{Here, Link}
use Rattle.roads.specs.Numbers.{some}
use Rattle.roads.specs.Roads.{shortest, first}
use Rattle.graph.specs.Graph.{Graph}
use Rattle.tree.specs.Legal.{legal, stands}

-- legal roads have at most 2n links: up to the root and down from it
abbrev pub most : Graph → ℕ
most g = suc (2 * g.n)

-- links, and after them a door of each switch
abbrev pub channels : Graph → ℕ
channels g = g.links + g.n

-- where a road begins that goes on from channel c: after a link down no link up may follow; channels from `links` on are doors
abbrev pub start : Graph → (ℕ → Bool) → ℕ → Bool × ℕ
start g up c = cond (nat_lt c g.links) (up c, g.to c) (true, c - g.links)

-- how a block for place p goes on from a state: it has come, or takes the lowest first link of the shortest legal roads
abbrev pub onward : Graph → (ℕ → Bool) → ℕ → Bool × ℕ → Entry
onward g up p x =
    cond (stands p x) Here
    (cond (nat_lt (shortest (legal g up) (stands p) (most g) x) (most g)) (Link (first (legal g up) (stands p) (most g) x)) Here)

abbrev pub whole : Graph → (ℕ → Bool) → ℕ → ℕ → Entry
whole g up c p = onward g up p (start g up c)

abbrev pub goes_on : (ℕ → Bool) → Entry → Bool
goes_on f Here = false
goes_on f (Link d) = f d

-- going by table t, a block for place p comes from channel c to channel e in at most n steps
unfoldable pub passes : (ℕ → ℕ → Entry) → ℕ → ℕ → ℕ → ℕ → Bool
passes t p zero c e = c == e
passes t p (suc n) c e = c == e || goes_on (λ d. passes t p n d e) (t c p)

-- some block for place p from a door comes to channel c
unfoldable pub met : Graph → (ℕ → Bool) → ℕ → ℕ → Bool
met g up c p = some (λ s. passes (whole g up) p (2 * g.n) (g.links + s) c) g.n

-- the table's entry
abbrev pub kept : Graph → (ℕ → Bool) → ℕ → ℕ → Entry
kept g up c p = cond (met g up c p) (whole g up c p) Here
