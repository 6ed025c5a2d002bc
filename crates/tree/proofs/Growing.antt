-- What is known of an accepted list of cables, and of its tree. Assumes nothing.
use Rattle.std.proofs.Common.{◌≡◌, ℕ, ◌<◌, List, length, get_or, vec_items, vec_len, sym, ap, ◌∙◌, arith}
use Rattle.std.proofs.lemmas.List.{length-map}
use Rattle.std.proofs.lemmas.List.FromFn.{length-map-range_with_len, get_or-map-range_with_len}
use Rattle.graph.specs.declared.cabling.Cabling.{Cabling}
use Rattle.graph.specs.Graph.{no_link}
use Rattle.graph.specs.Refusal.{graph_of_cabling}
use Rattle.graph.specs.Tree.{level}
use Rattle.graph.proofs.Links.{from_at, to_at}
use Rattle.tree.specs.declared.planted.Tree.{Tree}
use Rattle.tree.specs.declared.way.Way.{Way}
use Rattle.tree.specs.Laws.{Sound}
use Rattle.tree.specs.Legal.{goes_up, rank_of}
use Rattle.tree.specs.Listed.{no_way}
use Rattle.tree.specs.Planted.{graph_in, up_in, rank_in}

pub sound_in : (c : Cabling) → Sound (graph_of_cabling c)
sound_in c = record { from = c.linked.ends.from; to = c.linked.ends.to; apart = c.linked.apart; two = c.linked.two; joined = c.joined }

module _ (t : Tree) where
  pub sound_of : Sound (graph_in t)
  sound_of = sound_in t.cabling

  -- the graph's links are those of the list, and each has a way
  pub links_in : vec_len t.cabling.links ≡ (graph_in t).links
  links_in = t.cabling.links.ok.0 ∙ sym (length-map (vec_items t.cabling.links) (λ l. l.from))

  pub ways_in : vec_len t.ways ≡ (graph_in t).links
  ways_in = t.ways.ok.0 ∙ ap length t.listed ∙ length-map-range_with_len _ 0 (graph_in t).links

  pub from_in : (k : ℕ) → (graph_in t).from k ≡ (get_or (vec_items t.cabling.links) k no_link).from
  from_in k = from_at (vec_items t.cabling.links) k

  pub to_in : (k : ℕ) → (graph_in t).to k ≡ (get_or (vec_items t.cabling.links) k no_link).to
  to_in k = to_at (vec_items t.cabling.links) k

  pub up_at : (k : ℕ) → k < (graph_in t).links → up_in t k ≡ goes_up (graph_in t) (level (graph_in t) t.root) k
  up_at k l = ap (λ (ws : List Way). (get_or ws k no_way).up) t.listed ∙ ap (λ (w : Way). w.up) (get_or-map-range_with_len _ 0 (graph_in t).links k k no_way l (omega arith))

  pub rank_at : (k : ℕ) → k < (graph_in t).links → rank_in t k ≡ rank_of (graph_in t) (level (graph_in t) t.root) (goes_up (graph_in t) (level (graph_in t) t.root)) k
  rank_at k l = ap (λ (ws : List Way). (get_or ws k no_way).rank) t.listed ∙ ap (λ (w : Way). w.rank) (get_or-map-range_with_len _ 0 (graph_in t).links k k no_way l (omega arith))
