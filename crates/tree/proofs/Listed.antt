-- The ways that the code makes are those of the definition. Assumes nothing.
use Rattle.std.proofs.Common.{◌≡◌, ℕ, ◌<◌, ◌&&◌, ◌||◌, eqb, ltb, List, map, length, get_or, sym, ap, ◌∙◌, subst, arith}
use Rattle.std.specs.List.{All}
use Rattle.std.proofs.lemmas.List.{length-map, get_or-map, get_or_default}
use Rattle.std.proofs.lemmas.List.FromFn.{fill_by_all}
use Rattle.graph.specs.declared.link.Link.{Link}
use Rattle.graph.specs.Graph.{Ends, graph_with, no_link}
use Rattle.graph.specs.Layers.{Levelled}
use Rattle.graph.specs.Tree.{level}
use Rattle.graph.proofs.Links.{from_at, to_at, link_from, link_to}
use Rattle.tree.specs.declared.way.Way.{Way}
use Rattle.tree.specs.Listed.{way_list, way_by, rank_by, no_way}

-- the way of a link by the number of switches, and the levels and numbers of those where it ends and begins
way_of : ℕ → ℕ → ℕ → ℕ → ℕ → Way
way_of n lt lf t f = record { up = ltb lt lf || (eqb lt lf && ltb t f); rank = rank_by n lt (ltb lt lf || (eqb lt lf && ltb t f)) t }

module _ (n r : ℕ) (links : List Link) (e : Ends (graph_with n links)) (ls : List ℕ) (h : Levelled (graph_with n links) r ls) where
  -- link k
  way_at : (k : ℕ) → k < length links → way_by ls (get_or links k no_link) ≡ way_of n (level (graph_with n links) r ((graph_with n links).to k)) (level (graph_with n links) r ((graph_with n links).from k)) ((graph_with n links).to k) ((graph_with n links).from k)
  unfolding way_of
  way_at k l =
      let lv = level (graph_with n links) r in
      let f = from_at links k in
      let t = to_at links k in
      let a = h.each (get_or links k no_link).from (link_from n links e k l) ∙ ap lv (sym f) in
      let b = h.each (get_or links k no_link).to (link_to n links e k l) ∙ ap lv (sym t) in
      let s = h.size in
      cc

  pub ways_are : map (way_by ls) links ≡ way_list (graph_with n links) (level (graph_with n links) r)
  unfolding way_of
  ways_are =
      let g = graph_with n links in
      let m = length-map links (λ l. l.from) in
      fill_by_all (λ k. way_of n (level g r (g.to k)) (level g r (g.from k)) (g.to k) (g.from k)) (map (way_by ls) links) g.links no_way (length-map links (way_by ls) ∙ sym m)
      (λ k l. get_or-map (way_by ls) links k no_link no_way (omega arith) ∙ way_at k (omega arith))

-- each link is between two switches that are there
pub links_all : (n m : ℕ) (links xs : List Link) → Ends (graph_with n links) → m ≡ n → xs ≡ links → All (λ l. (l.from < m) × (l.to < m)) xs
links_all n m links xs e p q = subst (λ (i : ℕ). All (λ l. (l.from < i) × (l.to < i)) xs) (sym p) (subst (All (λ l. (l.from < n) × (l.to < n))) (sym q)
    (λ k d l. subst (λ (x : Link). (x.from < n) × (x.to < n)) (get_or_default links k no_link d l) (link_from n links e k l, link_to n links e k l)))
