-- What one step of the sweep writes, and what it leaves. Assumes nothing.
use Rattle.std.proofs.Common.{◌≡◌, ℕ, ◌+◌, ◌<◌, Bool, true, false, cond, not, ◌&&◌, List, [], map, length, get_or, set, vec_items, sym, ap, ◌∙◌, subst, ⊎_elim, arith}
use lib.Bits.{bit_or}
use Rattle.std.proofs.lemmas.List.{get_or-set_same, get_or-set_other, get_or-map, length-map, map-set}
use Rattle.std.proofs.lemmas.Bool.{cases_eq}
use Rattle.net.specs.declared.Entry.{Entry}
use Rattle.net.specs.declared.Entry.TheVariants.{Here, Link}
use Rattle.graph.specs.Sets.{has}
use Rattle.graph.specs.Graph.{Graph}
use Rattle.tree.specs.Planted.{graph_in, up_in}
use Rattle.tree.specs.declared.planted.Tree.{Tree}
use Rattle.table.specs.declared.states.State.{State}
use Rattle.table.specs.declared.sweep.Sweep.{Sweep}
use Rattle.table.specs.Cells.{reached_at, before_at, Relaxed}
use Rattle.table.specs.Swept.{Steps, Looks}
use Rattle.table.proofs.Trees.{from_small, to_small}
use Rattle.table.proofs.Looking.{held_on, look_up, look_down}

-- the part of a state that was read
pub part_at : {X : Type 0} (f : State → X) (ss : List State) (i : ℕ) (e : State) (d : X) → i < length ss → e ≡ get_or ss i e → get_or (map f ss) i d ≡ f e
part_at f ss i e d l q = get_or-map f ss i e d l ∙ ap f (sym q)

pub part_set : {X : Type 0} (f : State → X) (ss : List State) (i : ℕ) (v : State) (d : X) → i < length ss → get_or (map f (set ss i v)) i d ≡ f v
part_set f ss i v d l = ap (λ xs. get_or xs i d) (map-set f ss i v) ∙ get_or-set_same (map f ss) i (f v) d (let z = length-map ss f in omega arith)

pub part_other : {X : Type 0} (f : State → X) (ss : List State) (x i : ℕ) (v : State) (d : X) → (i ≡ x → ⊥) → get_or (map f (set ss x v)) i d ≡ get_or (map f ss) i d
part_other f ss x i v d ne = ap (λ xs. get_or xs i d) (map-set f ss x v) ∙ get_or-set_other (map f ss) x i (f v) d ne

module _ (n : ℕ) (ss : List State) (x y k : ℕ) (e r v : State) (lx : x < length ss) (ly : y < length ss) (at_x : e ≡ get_or ss x e) (at_y : r ≡ get_or ss y r) where
  pub relaxed_is : length (vec_items e.row) ≡ n → v.reached ≡ bit_or e.reached r.before → v.before ≡ e.before →
      ((p : ℕ) → p < length (vec_items e.row) → get_or (vec_items v.row) p Here ≡ cond (has r.before p && not (has e.reached p)) (Link k) (get_or (vec_items e.row) p Here)) →
      Relaxed n ss x y k (set ss x v)
  relaxed_is z a b w = record {
    before = λ i. ⊎_elim (λ (q : i ≡ x). subst (λ (m : ℕ). before_at (set ss x v) m ≡ before_at ss m) (sym q) (part_set (λ s. s.before) ss x v 0 lx ∙ b ∙ sym (part_at (λ s. s.before) ss x e 0 lx at_x)))
        (λ ne. part_other (λ s. s.before) ss x i v 0 ne) (cases_eq i x);
    added = part_set (λ s. s.reached) ss x v 0 lx ∙ a ∙ ap (λ (m : ℕ). bit_or m r.before) (sym had) ∙ ap (λ (m : ℕ). bit_or (reached_at ss x) m) (sym more);
    other = λ i ne. part_other (λ s. s.reached) ss x i v 0 ne;
    row = λ p l. ap (λ (es : List Entry). get_or es p Here) (part_set (λ s. vec_items s.row) ss x v [] lx) ∙ w p (omega arith)
        ∙ ap (λ (m : ℕ). cond (has m p && not (has e.reached p)) (Link k) (get_or (vec_items e.row) p Here)) (sym more)
        ∙ ap (λ (m : ℕ). cond (has (before_at ss y) p && not (has m p)) (Link k) (get_or (vec_items e.row) p Here)) (sym had)
        ∙ ap (λ (es : List Entry). cond (has (before_at ss y) p && not (has (reached_at ss x) p)) (Link k) (get_or es p Here)) (sym (part_at (λ s. vec_items s.row) ss x e [] lx at_x));
    rest = λ i p ne. ap (λ (es : List Entry). get_or es p Here) (part_other (λ s. vec_items s.row) ss x i v [] ne);
  }
    where
      had : reached_at ss x ≡ e.reached
      had = part_at (λ s. s.reached) ss x e 0 lx at_x

      more : before_at ss y ≡ r.before
      more = part_at (λ s. s.before) ss y r 0 ly at_y

-- a link looked at from where it begins, in states up and down
module _ (w : Sweep) (k x y : ℕ) (lk : k < (graph_in w.tree.now).links) (p : x ≡ (graph_in w.tree.now).from k) (q : y ≡ (graph_in w.tree.now).to k) where
  abbrev g : Graph
  g = graph_in w.tree.now

  abbrev up : ℕ → Bool
  up = up_in w.tree.now

  abbrev ss : List State
  ss = vec_items w.states

  pub looks_up : (w' : Sweep) → up_in w.tree.now k ≡ true → Steps w x y k w' → Looks w k w'
  looks_up w' u s = record {
    tree = s.tree;
    held = λ j h. held_on g up j x y k ss (vec_items w'.states) s.relaxed h;
    layer = λ j small held h. look_up g up j k small lk (from_small w.tree.now k lk) (to_small w.tree.now k lk) ss held (vec_items w'.states) u
        (subst (λ (b : ℕ). Relaxed g.n ss (g.from k) b k (vec_items w'.states)) q (subst (λ (a : ℕ). Relaxed g.n ss a y k (vec_items w'.states)) p s.relaxed)) h;
  }

  pub looks_down : (w' w'' : Sweep) → up_in w.tree.now k ≡ false → Steps w x ((graph_in w.tree.now).n + y) k w' → Steps w' ((graph_in w.tree.now).n + x) ((graph_in w.tree.now).n + y) k w'' → Looks w k w''
  looks_down w' w'' u s t = record {
    tree = t.tree ∙ s.tree;
    held = λ j h. held_on g up j (g.n + x) (g.n + y) k (vec_items w'.states) (vec_items w''.states) next (held_on g up j x (g.n + y) k ss (vec_items w'.states) s.relaxed h);
    layer = λ j small held h. look_down g up j k small lk (from_small w.tree.now k lk) (to_small w.tree.now k lk) ss held (vec_items w'.states) (vec_items w''.states) u
        (subst (λ (b : ℕ). Relaxed g.n ss (g.from k) (g.n + b) k (vec_items w'.states)) q (subst (λ (a : ℕ). Relaxed g.n ss a (g.n + y) k (vec_items w'.states)) p s.relaxed))
        (subst (λ (b : ℕ). Relaxed g.n (vec_items w'.states) (g.n + g.from k) (g.n + b) k (vec_items w''.states)) q (subst (λ (a : ℕ). Relaxed g.n (vec_items w'.states) (g.n + a) (g.n + y) k (vec_items w''.states)) p next)) h;
  }
    where
      next : Relaxed g.n (vec_items w'.states) (g.n + x) (g.n + y) k (vec_items w''.states)
      next = subst (λ (t : Tree). Relaxed t.cabling.switches (vec_items w'.states) (g.n + x) (g.n + y) k (vec_items w''.states)) s.tree t.relaxed
