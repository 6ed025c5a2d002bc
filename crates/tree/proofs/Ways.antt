-- From every switch a legal road leads to every other: up to the root, and down from it. Assumes nothing.
use Rattle.std.proofs.Common.{◌≡◌, ℕ, zero, suc, ◌+◌, ◌<◌, Bool, true, false, not, ◌&&◌, ◌||◌, eqb, ltb, List, [], ◌∷◌, ◌++◌, length, sym, refl, ap, ◌∙◌, subst, arith, length-append}
use Rattle.std.proofs.lemmas.Bool.{eqb-true, eq-eqb, ne_eqb, lt-ltb, le-ltb, and_from, or_left, or_right, or_from, and_left, not_from_false}
use Rattle.roads.specs.Roads.{Road, there, along}
use Rattle.graph.specs.Graph.{Graph, partner}
use Rattle.graph.specs.Tree.{level}
use Rattle.tree.specs.Legal.{goes_up, legal, stands}
use Rattle.tree.specs.Laws.{Sound, LegalRoads}
use Rattle.tree.proofs.Higher.{one_higher, root_level, root_alone}

module _ (g : Graph) (up : ℕ → Bool) where
  -- a link down may follow any road that ends where it begins
  pub one_more : (q : ℕ) (j : ℕ) → j < g.links → g.from j ≡ q → up j ≡ false → (x : Bool × ℕ) (ks : List ℕ) → Road (legal g up) (stands q) x ks → Road (legal g up) (stands (g.to j)) x (ks ++ (j ∷ []))
  one_more q j l f d x _ (there e) =
      along l (and_from (eqb (g.from j) x.1) (x.0 || not (up j)) (eq-eqb (g.from j) x.1 (f ∙ sym (eqb-true x.1 q e))) (or_right x.0 (not (up j)) (not_from_false (up j) d)))
      (there (eq-eqb (g.to j) (g.to j) refl))
  one_more q j l f d x _ (along {k = k} {ks = ks} o e r) = along o e (one_more q j l f d (up k, g.to k) ks r)

module _ (g : Graph) (z : Sound g) (r : ℕ) (lr : r < g.n) where
  abbrev ups : ℕ → Bool
  ups = goes_up g (level g r)

  -- down from the root
  down : (m p : ℕ) → p < g.n → level g r p ≡ m → (ks : List ℕ) × Road (legal g (goes_up g (level g r))) (stands p) (true, r) ks × (length ks ≡ m)
  down zero p lp e = ([], there (eq-eqb r p (sym (root_alone g z.joined r p lr lp e))), refl)
  down (suc m) p lp e = go (λ q lq eq. down m q lq eq)
    where
      away : p ≡ r → ⊥
      away q = let a : level g r p ≡ 0 = ap (level g r) q ∙ root_level g r in omega arith

      h : (k : ℕ) × (k < g.links) × (g.from k ≡ p) × (suc (level g r (g.to k)) ≡ level g r p)
      h = one_higher g z.joined r p lr lp away

      back : (partner h.0 < g.links) × (g.from (partner h.0) ≡ g.to h.0) × (g.to (partner h.0) ≡ g.from h.0)
      back = z.two h.0 h.1

      ends : g.to (partner h.0) ≡ p
      ends = back.2 ∙ h.2

      is_down : goes_up g (level g r) (partner h.0) ≡ false
      is_down =
          let a = h.3 in
          let b : level g r (g.to (partner h.0)) ≡ level g r p = ap (level g r) ends in
          let c : level g r (g.from (partner h.0)) ≡ level g r (g.to h.0) = ap (level g r) back.1 in
          or_from (ltb (level g r (g.to (partner h.0))) (level g r (g.from (partner h.0)))) (eqb (level g r (g.to (partner h.0))) (level g r (g.from (partner h.0))) && ltb (g.to (partner h.0)) (g.from (partner h.0)))
          (le-ltb (level g r (g.to (partner h.0))) (level g r (g.from (partner h.0))) (omega arith))
          (and_left (eqb (level g r (g.to (partner h.0))) (level g r (g.from (partner h.0)))) (ltb (g.to (partner h.0)) (g.from (partner h.0)))
          (ne_eqb (level g r (g.to (partner h.0))) (level g r (g.from (partner h.0))) (λ q. omega arith)))

      go : ((q : ℕ) → q < g.n → level g r q ≡ m → (ks : List ℕ) × Road (legal g (goes_up g (level g r))) (stands q) (true, r) ks × (length ks ≡ m)) →
          (ks : List ℕ) × Road (legal g (goes_up g (level g r))) (stands p) (true, r) ks × (length ks ≡ suc m)
      go f =
          let a = h.3 in
          let w = f (g.to h.0) (z.to h.0 h.1) (omega arith) in
          let v = one_more g (goes_up g (level g r)) (g.to h.0) (partner h.0) back.0 back.1 is_down (true, r) w.0 w.1 in
          let n = length-append w.0 (partner h.0 ∷ []) in
          let c = w.2 in
          (w.0 ++ (partner h.0 ∷ []), subst (λ (q : ℕ). Road (legal g (goes_up g (level g r))) (stands q) (true, r) (w.0 ++ (partner h.0 ∷ []))) ends v, omega arith)

  -- up to the root, and then on
  climb : (m s p : ℕ) → s < g.n → p < g.n → level g r s ≡ m →
      (ks : List ℕ) × Road (legal g (goes_up g (level g r))) (stands p) (true, s) ks × (length ks ≡ m + level g r p)
  climb zero s p ls lp e =
      let d = down (level g r p) p lp refl in
      let c = d.2 in
      (d.0, subst (λ (q : ℕ). Road (legal g (goes_up g (level g r))) (stands p) (true, q) d.0) (sym (root_alone g z.joined r s lr ls e)) d.1, omega arith)
  climb (suc m) s p ls lp e = go (λ q lq eq. climb m q p lq lp eq)
    where
      away : s ≡ r → ⊥
      away q = let a : level g r s ≡ 0 = ap (level g r) q ∙ root_level g r in omega arith

      h : (k : ℕ) × (k < g.links) × (g.from k ≡ s) × (suc (level g r (g.to k)) ≡ level g r s)
      h = one_higher g z.joined r s lr ls away

      is_up : goes_up g (level g r) h.0 ≡ true
      is_up =
          let a = h.3 in
          let b : level g r (g.from h.0) ≡ level g r s = ap (level g r) h.2 in
          or_left (ltb (level g r (g.to h.0)) (level g r (g.from h.0))) (eqb (level g r (g.to h.0)) (level g r (g.from h.0)) && ltb (g.to h.0) (g.from h.0))
          (lt-ltb (level g r (g.to h.0)) (level g r (g.from h.0)) (omega arith))

      go : ((q : ℕ) → q < g.n → level g r q ≡ m → (ks : List ℕ) × Road (legal g (goes_up g (level g r))) (stands p) (true, q) ks × (length ks ≡ m + level g r p)) →
          (ks : List ℕ) × Road (legal g (goes_up g (level g r))) (stands p) (true, s) ks × (length ks ≡ suc m + level g r p)
      go f =
          let a = h.3 in
          let w = f (g.to h.0) (z.to h.0 h.1) (omega arith) in
          let c = w.2 in (
            h.0 ∷ w.0,
            along h.1 (and_from (eqb (g.from h.0) s) (true || not (goes_up g (level g r) h.0)) (eq-eqb (g.from h.0) s h.2) refl)
                (subst (λ (u : Bool). Road (legal g (goes_up g (level g r))) (stands p) (u, g.to h.0) w.0) (sym is_up) w.1),
            omega arith,
          )

pub legal_roads : LegalRoads
legal_roads g z r lr s p ls lp = climb g z r lr (level g r s) s p ls lp refl
