-- A layer begun, and a link more. Assumes nothing.
use Rattle.std.proofs.Common.{◌≡◌, ℕ, suc, ◌+◌, ◌<◌, Bool, cond, List, [], map, length, get_or, set, vec_items, All, sym, ap, ◌∙◌, subst, ⊎_elim, arith}
use Rattle.std.proofs.lemmas.List.{get_or-map, length-map}
use Rattle.std.proofs.Math.Seq.{map-set_same}
use Rattle.std.proofs.lemmas.Bool.{cases_eq}
use Rattle.net.specs.declared.Entry.{Entry}
use Rattle.net.specs.declared.Entry.TheVariants.{Here}
use Rattle.graph.specs.Graph.{Graph}
use Rattle.graph.specs.Sets.{has}
use Rattle.tree.specs.Planted.{graph_in, up_in}
use Rattle.tree.specs.declared.planted.Tree.{Tree}
use Rattle.table.specs.declared.states.State.{State}
use Rattle.table.specs.declared.sweep.Sweep.{Sweep}
use Rattle.table.specs.Kept.{most, onward}
use Rattle.table.specs.Cells.{reached_at, before_at, cell_at, Layer, Held, state_of}
use Rattle.table.specs.Swept.{Looks, Layers, Underway}
use Rattle.table.proofs.Stepping.{part_at, part_set, part_other}
use Rattle.table.proofs.Sweeping.{reached_of, next_layer}

-- the first k states have kept beside what they have reached; all else is as it was
pub record Kept (ss : List State) (k : ℕ) (ss' : List State) : Type 0 where
  pub rows : map (λ s. vec_items s.row) ss' ≡ map (λ s. vec_items s.row) ss
  pub reached : map (λ s. s.reached) ss' ≡ map (λ s. s.reached) ss
  pub before : (i : ℕ) → i < k → before_at ss' i ≡ reached_at ss i

pub kept_more : (ss ss' : List State) (k : ℕ) (e v : State) → k < length ss' → e ≡ get_or ss' k e → vec_items v.row ≡ vec_items e.row → v.reached ≡ e.reached → v.before ≡ e.reached →
    Kept ss k ss' → Kept ss (k + 1) (set ss' k v)
kept_more ss ss' k e v l q a b d h = record {
  rows = map-set_same (λ s. vec_items s.row) ss' k v e (a ∙ ap (λ (s : State). vec_items s.row) q) ∙ h.rows;
  reached = map-set_same (λ s. s.reached) ss' k v e (b ∙ ap (λ (s : State). s.reached) q) ∙ h.reached;
  before = λ i o. ⊎_elim
      (λ (p : i ≡ k). subst (λ (m : ℕ). before_at (set ss' k v) m ≡ reached_at ss m) (sym p) (part_set (λ s. s.before) ss' k v 0 l ∙ d ∙ sym (part_at (λ s. s.reached) ss' k e 0 l q) ∙ ap (λ (xs : List ℕ). get_or xs k 0) h.reached))
      (λ ne. part_other (λ s. s.before) ss' k i v 0 ne ∙ h.before i (omega arith)) (cases_eq i k);
}

-- rows are as long as they were
pub kept_rows : (n k : ℕ) (ss ss' : List State) → Kept ss k ss' → All (λ s. length (vec_items s.row) ≡ n) ss → All (λ s. length (vec_items s.row) ≡ n) ss'
kept_rows n k ss ss' h a = λ i d l.
    let z : length ss' ≡ length ss = sym (length-map ss' (λ (s : State). vec_items s.row)) ∙ ap length h.rows ∙ length-map ss (λ (s : State). vec_items s.row) in
    ap length (sym (get_or-map (λ (s : State). vec_items s.row) ss' i d [] l) ∙ ap (λ (xs : List (List Entry)). get_or xs i []) h.rows ∙ get_or-map (λ (s : State). vec_items s.row) ss i d [] (omega arith))
    ∙ a i d (omega arith)

-- what a layer says of each state, it says where sets and rows are the same
same_layer : (g : Graph) (up : ℕ → Bool) (j k : ℕ) (ss ss' : List State) → ((i : ℕ) → reached_at ss' i ≡ reached_at ss i) → ((i p : ℕ) → cell_at ss' i p ≡ cell_at ss i p) → Layer g up j k ss → Layer g up j k ss'
same_layer g up j k ss ss' a b h i l = record {
  reached = λ p o. ap (λ (w : ℕ). has w p) (a i) ∙ (h i l).reached p o;
  entry = λ p o. b i p ∙ (h i l).entry p o ∙ ap (λ (w : ℕ). cond (has w p) (onward g up p (state_of g.n i)) Here) (sym (a i));
}

pub begun : (w w' : Sweep) (k : ℕ) → w'.tree.now ≡ w.tree.now → length (vec_items w'.states) ≡ k → Kept (vec_items w.states) k (vec_items w'.states) → Underway w 0 w'
begun w w' k t z h = record {
  tree = t;
  held = λ j b i p l o. ap (λ (v : ℕ). has v p) (h.before i (omega (arith, all))) ∙ reached_of (graph_in w.tree.now) (up_in w.tree.now) j (vec_items w.states) b i p l o;
  layer = λ j b small. same_layer (graph_in w.tree.now) (up_in w.tree.now) j 0 (vec_items w.states) (vec_items w'.states)
      (λ i. ap (λ (xs : List ℕ). get_or xs i 0) h.reached) (λ i p. ap (λ (xs : List (List Entry)). get_or (get_or xs i []) p Here) h.rows) b;
}
  where
    all : k ≡ (graph_in w.tree.now).n + (graph_in w.tree.now).n
    all = sym z ∙ w'.two_for_each ∙ ap (λ (t : Tree). t.cabling.switches + t.cabling.switches) t

-- one link more
pub looked_more : (w w' w'' : Sweep) (k : ℕ) → Underway w k w' → Looks w' k w'' → Underway w (k + 1) w''
looked_more w w' w'' k u s = record {
  tree = s.tree ∙ u.tree;
  held = λ j b. subst (λ (t : Tree). Held (graph_in t) (up_in t) j (vec_items w''.states)) u.tree (s.held j (subst (λ (t : Tree). Held (graph_in t) (up_in t) j (vec_items w'.states)) (sym u.tree) (u.held j b)));
  layer = λ j b small. subst (λ (t : Tree). Layer (graph_in t) (up_in t) j (k + 1) (vec_items w''.states)) u.tree
      (s.layer j (subst (λ (t : Tree). suc j < most (graph_in t)) (sym u.tree) small)
      (subst (λ (t : Tree). Held (graph_in t) (up_in t) j (vec_items w'.states)) (sym u.tree) (u.held j b))
      (subst (λ (t : Tree). Layer (graph_in t) (up_in t) j k (vec_items w'.states)) (sym u.tree) (u.layer j b small)));
}

-- all links
pub all_looked : (w w' : Sweep) (k : ℕ) → k ≡ (graph_in w.tree.now).links → Underway w k w' → Layers w w'
all_looked w w' k e u = record {
  tree = u.tree;
  held = u.held;
  more = λ j small b. next_layer (graph_in w.tree.now) (up_in w.tree.now) j (vec_items w'.states)
      (subst (λ (m : ℕ). Layer (graph_in w.tree.now) (up_in w.tree.now) j m (vec_items w'.states)) e (u.layer j b small));
}
