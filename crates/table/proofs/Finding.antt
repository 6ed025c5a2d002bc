-- Layer after layer, until all is found. Assumes nothing.
use Rattle.std.proofs.Common.{◌≡◌, ℕ, suc, ◌+◌, ◌<◌, List, [], ◌∷◌, map, length, vec_items, All, sym, ap, ◌∙◌, subst, ⊎_elim, arith}
use Rattle.std.proofs.lemmas.List.{get_or-map, get_or_past, length-map}
use Rattle.std.proofs.lemmas.Bool.{cases_lt}
use Rattle.tree.specs.Planted.{graph_in, up_in}
use Rattle.tree.specs.declared.planted.Tree.{Tree}
use Rattle.table.specs.declared.states.State.{State}
use Rattle.table.specs.declared.sweep.Sweep.{Sweep}
use Rattle.table.specs.Cells.{reached_at, before_at, Layer, Held, Found}
use Rattle.table.specs.Swept.{swept_graph, swept_up, Layers}
use Rattle.table.proofs.Trees.{to_small}
use Rattle.table.proofs.Sweeping.{all_found, still_found}

-- nothing was added to any state
still : (ss : List State) → All (λ s. s.before ≡ s.reached) ss → (i : ℕ) → before_at ss i ≡ reached_at ss i
still [] a i = get_or_past {X = ℕ} [] i 0 (omega arith) ∙ sym (get_or_past {X = ℕ} [] i 0 (omega arith))
still (s ∷ ss) a i = ⊎_elim
    (λ (l : i < length (s ∷ ss)). get_or-map (λ (e : State). e.before) (s ∷ ss) i s 0 l ∙ a i s l ∙ sym (get_or-map (λ (e : State). e.reached) (s ∷ ss) i s 0 l))
    (λ l. get_or_past (map (λ (e : State). e.before) (s ∷ ss)) i 0 (let z = length-map (s ∷ ss) (λ (e : State). e.before) in omega arith)
    ∙ sym (get_or_past (map (λ (e : State). e.reached) (s ∷ ss)) i 0 (let z = length-map (s ∷ ss) (λ (e : State). e.reached) in omega arith)))
    (cases_lt i (length (s ∷ ss)))

-- every entry of a sweep is found
abbrev pub AllFound : Sweep → Type 0
AllFound w = Found (swept_graph w) (swept_up w) (vec_items w.states)

module _ (t : Tree) where
  -- a sweep of this tree, layer j done
  pub record At (j : ℕ) (w : Sweep) : Type 0 where
    pub tree : w.tree.now ≡ t
    pub layer : Layer (swept_graph w) (swept_up w) j 0 (vec_items w.states)

  pub next_at : (j : ℕ) (w w' : Sweep) → j < t.cabling.switches + t.cabling.switches → At j w → Layers w w' → At (j + 1) w'
  next_at j w w' l a s = record {
    tree = s.tree ∙ a.tree;
    layer = let e : suc j ≡ j + 1 = omega arith in
        subst (λ (m : ℕ). Layer (swept_graph w') (swept_up w') m 0 (vec_items w'.states)) e
        (subst (λ (u : Tree). Layer (graph_in u) (up_in u) (suc j) 0 (vec_items w'.states)) (sym s.tree)
        (s.more j (let q = ap (λ (u : Tree). u.cabling.switches) a.tree in omega arith) a.layer));
  }

  pub last_found : (j : ℕ) (w : Sweep) → j ≡ t.cabling.switches + t.cabling.switches → At j w → AllFound w
  last_found j w e a = all_found (swept_graph w) (swept_up w) j (vec_items w.states) (let q = ap (λ (u : Tree). u.cabling.switches) a.tree in omega arith) a.layer

  pub none_new : (j : ℕ) (w w' : Sweep) → j < t.cabling.switches + t.cabling.switches → At j w → Layers w w' → All (λ s. s.before ≡ s.reached) (vec_items w'.states) → AllFound w'
  none_new j w w' l a s q = still_found (swept_graph w') (swept_up w') (to_small w'.tree.now) j (vec_items w'.states) (still (vec_items w'.states) q)
      (let z = ap (λ (u : Tree). u.cabling.switches) (s.tree ∙ a.tree) in omega arith)
      (subst (λ (u : Tree). Held (graph_in u) (up_in u) j (vec_items w'.states)) (sym s.tree) (s.held j a.layer))
      (let e : j + 1 ≡ suc j = omega arith in subst (λ (m : ℕ). Layer (swept_graph w') (swept_up w') m 0 (vec_items w'.states)) e (next_at j w w' l a s).layer)
