-- What the layout holds, from the lists that it is made of. Assumes nothing.
use Rattle.std.proofs.Common.{◌≡◌, ℕ, ◌+◌, ◌-◌, ◌<◌, ◌≤◌, Bool, List, ◌++◌, Result, Ok, Err, MatchResult, map, length, get_or, replicate, vec_items, sym, ap, ◌∙◌, subst, arith}
use Rattle.std.proofs.lemmas.List.{get_or-map, get_or_append_left, get_or-append_right, length-map, length-replicate, length-append}
use Rattle.net.specs.declared.layout.Layout.{Layout}
use Rattle.net.specs.declared.Cable.{Cable}
use Rattle.graph.specs.declared.cabling.Cabling.{Cabling}
use Rattle.graph.specs.declared.link.Link.{Link}
use Rattle.graph.specs.Cables.{graph_of}
use Rattle.graph.specs.Graph.{Graph, graph_with}
use Rattle.graph.specs.Refusal.{Accepts, graph_of_cabling}
use Rattle.graph.specs.Tree.{level, root}
use Rattle.graph.proofs.Links.{graph_links}
use Rattle.tree.specs.Legal.{goes_up, rank_of}
use Rattle.tree.specs.Listed.{no_way}
use Rattle.tree.specs.Made.{Planted}
use Rattle.tree.specs.Planted.{graph_in}
use Rattle.tree.specs.declared.planted.Tree.{Tree}
use Rattle.tree.specs.declared.way.Way.{Way}
use Rattle.tree.proofs.Growing.{sound_of, links_in, ways_in, rank_at}
use Rattle.table.specs.Kept.{kept}
use Rattle.table.specs.Laid.{Laid}
use Rattle.table.specs.Marked.{Tabled}
use Rattle.table.specs.Promised.{LaidOut, Planned, Served, Unlaid, Unplanned}
use Rattle.table.specs.declared.error.LayoutError.{LayoutError}
use Rattle.table.specs.declared.error.LayoutError.TheVariants.{Room, Cables, Memory}
use Rattle.table.proofs.Trees.{ups_are, few, links_small}
use Rattle.table.proofs.Starting.{all_same}
use Rattle.table.proofs.Served.{laid_good}

module _ (t : Tree) where
  -- ranks of links, and 0 from there on
  record Ranked (rs : List ℕ) : Type 0 where
    size : length rs ≡ (graph_in t).links + (graph_in t).n
    links : (k : ℕ) → k < (graph_in t).links → get_or rs k 0 ≡ rank_of (graph_in t) (level (graph_in t) t.root) (goes_up (graph_in t) (level (graph_in t) t.root)) k
    doors : (c : ℕ) → (graph_in t).links ≤ c → get_or rs c 0 ≡ 0

  ranked : (rs : List ℕ) → rs ≡ map (λ w. w.rank) (vec_items t.ways) ++ replicate {A = ℕ} (graph_in t).n 0 → Ranked rs
  ranked rs e = record { size = long; links = links; doors = doors }
    where
      xs : List ℕ
      xs = map (λ (w : Way). w.rank) (vec_items t.ways)

      z : length (map (λ (w : Way). w.rank) (vec_items t.ways)) ≡ (graph_in t).links
      z = length-map (vec_items t.ways) (λ (w : Way). w.rank) ∙ sym t.ways.ok.0 ∙ ways_in t

      long : length rs ≡ (graph_in t).links + (graph_in t).n
      long = ap length e ∙ length-append (map (λ (w : Way). w.rank) (vec_items t.ways)) (replicate {A = ℕ} (graph_in t).n 0) ∙ (let a = length-replicate {A = ℕ} (graph_in t).n 0 in omega (arith, z))

      links : (k : ℕ) → k < (graph_in t).links → get_or rs k 0 ≡ rank_of (graph_in t) (level (graph_in t) t.root) (goes_up (graph_in t) (level (graph_in t) t.root)) k
      links k o = ap (λ (ys : List ℕ). get_or ys k 0) e ∙ get_or_append_left (map (λ (w : Way). w.rank) (vec_items t.ways)) (replicate {A = ℕ} (graph_in t).n 0) 0 k (omega (arith, z))
          ∙ get_or-map (λ (w : Way). w.rank) (vec_items t.ways) k no_way 0 (let a = ways_in t in let b = t.ways.ok.0 in omega arith) ∙ rank_at t k o

      doors : (c : ℕ) → (graph_in t).links ≤ c → get_or rs c 0 ≡ 0
      doors c o = ap (λ (ys : List ℕ). get_or ys c 0) e ∙ get_or-append_right (map (λ (w : Way). w.rank) (vec_items t.ways)) (replicate {A = ℕ} (graph_in t).n 0) (graph_in t).links c 0 z o ∙ all_same (graph_in t).n (c - (graph_in t).links) 0

  pub laid_out : (l : Layout) (m : ℕ) → 0 < m → m ≤ 32 → l.links ≡ (graph_in t).links → l.doors ≡ (graph_in t).n → l.places ≡ (graph_in t).n → l.room ≡ m →
      Tabled t (vec_items l.table) → vec_items l.ranks ≡ map (λ w. w.rank) (vec_items t.ways) ++ replicate {A = ℕ} (graph_in t).n 0 → vec_items l.ends ≡ map (λ k. k.to) (vec_items t.cabling.links) → LaidOut t m l
  laid_out l m some most k d q r a b e = record { laid = laid; serves = laid_good (graph_in t) (sound_of t) (few t) (links_small t) t.root t.inside m some most l laid }
    where
      rs : Ranked (vec_items l.ranks)
      rs = ranked (vec_items l.ranks) b

      laid : Laid (graph_in t) t.root m l
      laid = record {
        links = k;
        doors = d;
        places = q;
        room = r;
        size = a.size;
        table = λ c i o p. a.entries c i o p ∙ ap (λ (up : ℕ → Bool). kept (graph_in t) up c i) (ups_are t);
        ranked = rs.size;
        ranks = rs.links;
        door_ranks = rs.doors;
        ended = ap length e ∙ length-map (vec_items t.cabling.links) (λ (k : Link). k.to) ∙ sym t.cabling.links.ok.0 ∙ links_in t;
        ends = λ i o. ap (λ (xs : List ℕ). get_or xs i 0) e;
      }

-- the layout of the tree of an accepted list of cables, or why there is none
pub planned : (n m : ℕ) (cs : List Cable) (c : Cabling) (t : Tree) (r : Result Layout LayoutError) → Accepts n cs c → Planted c c.root t → MatchResult r (λ l. LaidOut t m l) (λ e. Unlaid m e) → MatchResult r (λ l. Planned n cs m l) (λ e. Unplanned n cs m e)
planned n m cs c t (Ok l) a p s =
    let r : t.root ≡ root (graph_of n cs) = p.root ∙ a.root in
    let g : graph_in t ≡ graph_of n cs = ap graph_of_cabling p.cabling ∙ ap (λ (i : ℕ). graph_with i (vec_items c.links)) a.switches ∙ ap (λ (ls : List Link). graph_with n ls) a.links ∙ graph_links n cs in
    subst (λ (h : Graph). Served h (root (graph_of n cs)) m l) g (subst (λ (i : ℕ). Served (graph_in t) i m l) r s)
planned n m cs c t (Err Room) a p s = (a.fine, s)
planned n m cs c t (Err (Cables e)) a p s = absurd s
planned n m cs c t (Err Memory) a p s = a.fine
