-- What is known of a tree: its size, where its links end, and how near every place is to every door. Assumes nothing.
use Rattle.std.proofs.Common.{◌≡◌, ℕ, ◌+◌, ◌<◌, ◌≤◌, Bool, false, ◌&&◌, eqb, ltb, map, vec_items, sym, ap, ◌∙◌, subst, ⊎_elim, arith}
use mathlib.Core.Path.{fun_ext}
use Rattle.std.proofs.lemmas.List.{get_or_past, length-map}
use Rattle.std.proofs.lemmas.Bool.{cases_lt, le-ltb, or_from, and_right}
use Rattle.roads.specs.Roads.{shortest}
use Rattle.graph.specs.declared.link.Link.{Link}
use Rattle.graph.specs.Tree.{level}
use Rattle.tree.specs.Legal.{above, goes_up, legal, stands}
use Rattle.tree.specs.Listed.{no_way}
use Rattle.tree.specs.Planted.{graph_in, up_in}
use Rattle.tree.specs.declared.planted.Tree.{Tree}
use Rattle.tree.specs.declared.way.Way.{Way}
use Rattle.tree.proofs.Growing.{sound_of, ways_in, up_at}
use Rattle.table.specs.Kept.{most, start}
use Rattle.table.proofs.Follow.{door_far}

-- no switch is above itself
not_above : (lv : ℕ → ℕ) (a : ℕ) → above lv a a ≡ false
not_above lv a = or_from (ltb (lv a) (lv a)) (eqb (lv a) (lv a) && ltb a a) (le-ltb (lv a) (lv a) (omega arith)) (and_right (eqb (lv a) (lv a)) (ltb a a) (le-ltb a a (omega arith)))

module _ (t : Tree) where
  pub few : (graph_in t).n ≤ 64
  few = t.cabling.linked.few

  pub some : 0 < (graph_in t).n
  some = t.cabling.linked.some

  pub links_small : (graph_in t).links ≤ 256
  links_small = t.cabling.linked.short

  pub from_small : (k : ℕ) → k < (graph_in t).links → (graph_in t).from k < (graph_in t).n
  from_small = t.cabling.linked.ends.from

  pub to_small : (k : ℕ) → k < (graph_in t).links → (graph_in t).to k < (graph_in t).n
  to_small = t.cabling.linked.ends.to

  -- what the tree says of its links is the definition, past their end too
  pub ups_are : up_in t ≡ goes_up (graph_in t) (level (graph_in t) t.root)
  ups_are = fun_ext at
    where
      at : (k : ℕ) → up_in t k ≡ goes_up (graph_in t) (level (graph_in t) t.root) k
      at k = ⊎_elim (λ (l : k < (graph_in t).links). up_at t k l)
          (λ l. ap (λ (w : Way). w.up) (get_or_past (vec_items t.ways) k no_way (let a = ways_in t in let b = t.ways.ok.0 in omega arith))
          ∙ sym (ap (λ (v : ℕ). above (level (graph_in t) t.root) v ((graph_in t).from k)) (get_or_past (map (λ l. l.to) (vec_items t.cabling.links)) k 0 (let a = length-map (vec_items t.cabling.links) (λ (l : Link). l.to) in let b = length-map (vec_items t.cabling.links) (λ (l : Link). l.from) in omega arith))
          ∙ ap (λ (v : ℕ). above (level (graph_in t) t.root) 0 v) (get_or_past (map (λ l. l.from) (vec_items t.cabling.links)) k 0 l)
          ∙ not_above (level (graph_in t) t.root) 0))
          (cases_lt k (graph_in t).links)

  pub near : (s p : ℕ) → s < (graph_in t).n → p < (graph_in t).n →
      shortest (legal (graph_in t) (up_in t)) (stands p) (most (graph_in t)) (start (graph_in t) (up_in t) ((graph_in t).links + s)) < most (graph_in t)
  near s p ls lp = subst (λ (up : ℕ → Bool). shortest (legal (graph_in t) up) (stands p) (most (graph_in t)) (start (graph_in t) up ((graph_in t).links + s)) < most (graph_in t)) (sym ups_are)
      (door_far (graph_in t) (sound_of t) t.root t.inside p s lp ls)
