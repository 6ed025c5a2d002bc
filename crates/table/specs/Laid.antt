-- The layout of a net whose cables are a graph with a root. Assumes nothing.
use Rattle.std.specs.Prelude.{◌≡◌, ℕ, ◌+◌, ◌-◌, ◌*◌, ◌<◌, ◌≤◌, cond, length, vec_items, nat_lt, slice_index, slice_index_or}
use Rattle.net.specs.declared.layout.Layout.{Layout}
use Rattle.net.specs.declared.Entry.TheVariants.{Here}
use Rattle.net.specs.Net.{Net}
use Rattle.graph.specs.Graph.{Graph}
use Rattle.graph.specs.Tree.{level}
use Rattle.tree.specs.Legal.{goes_up, rank_of}
use Rattle.table.specs.Kept.{kept}

-- the layout of graph g with root r: its table entry by entry, its ranks, and where links end
pub record Laid (g : Graph) (r m : ℕ) (l : Layout) : Type 0 where
  pub links : l.links ≡ g.links
  pub doors : l.doors ≡ g.n
  pub places : l.places ≡ g.n
  pub room : l.room ≡ m
  pub size : length (vec_items l.table) ≡ (g.links + g.n) * g.n
  pub table : (c p : ℕ) → c < g.links + g.n → p < g.n → slice_index_or (vec_items l.table) (c * g.n + p) Here ≡ kept g (goes_up g (level g r)) c p
  pub ranked : length (vec_items l.ranks) ≡ g.links + g.n
  pub ranks : (k : ℕ) → k < g.links → slice_index (vec_items l.ranks) k ≡ rank_of g (level g r) (goes_up g (level g r)) k
  pub door_ranks : (c : ℕ) → g.links ≤ c → slice_index (vec_items l.ranks) c ≡ 0
  pub ended : length (vec_items l.ends) ≡ g.links
  pub ends : (k : ℕ) → k < g.links → slice_index (vec_items l.ends) k ≡ g.to k

-- The net of graph g with root r, worked out with no layout: stores for m blocks, the kept entries (outside of the table: here),
-- ranks, and where channels end.
abbrev pub net_for : Graph → ℕ → ℕ → Net
net_for g r m = record {
  links = g.links;
  doors = g.n;
  places = g.n;
  store = m;
  next = λ c p. cond (nat_lt p g.n) (cond (nat_lt c (g.links + g.n)) (kept g (goes_up g (level g r)) c p) Here) Here;
  rank = λ c. cond (nat_lt c g.links) (rank_of g (level g r) (goes_up g (level g r)) c) 0;
  ends = λ c. cond (nat_lt c g.links) (g.to c) (c - g.links);
}
