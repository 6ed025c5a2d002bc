-- Going by the table: from a state near enough it comes nearer with each link; what is met, and where entries are here. Assumes nothing.
use Rattle.std.proofs.Common.{◌≡◌, ℕ, zero, suc, ◌+◌, ◌-◌, ◌*◌, ◌<◌, ◌≤◌, Bool, true, false, cond, ◌||◌, eqb, ltb, ◌⊎◌, sym, refl, ap, ◌∙◌, subst, inl, inr, ⊎_elim, arith}
use Rattle.std.proofs.lemmas.Bool.{eqb-true, eq-eqb, lt-ltb, le-ltb, cases_Bool, cases_lt, cond-true, cond-false, or_cases, or_left, or_right, both_ways}
use Rattle.net.specs.declared.Entry.{Entry}
use Rattle.net.specs.declared.Entry.TheVariants.{Here, Link}
use Rattle.roads.specs.Roads.{shortest, first}
use Rattle.roads.proofs.Below.{some_from, some_one}
use Rattle.roads.proofs.Roads.{first_is, none_shorter}
use Rattle.graph.specs.Graph.{Graph}
use Rattle.graph.specs.Tree.{level}
use Rattle.tree.specs.Legal.{goes_up, legal, stands}
use Rattle.tree.specs.Laws.{Sound}
use Rattle.tree.proofs.Ways.{legal_roads}
use Rattle.table.specs.Kept.{most, start, onward, whole, goes_on, passes, met}

-- how it goes on from state x: it has come, or goes by the first link, after which it is one nearer
pub data Next (g : Graph) (up : ℕ → Bool) (p : ℕ) (x : Bool × ℕ) : Entry → Type 0 where
  arrived : x.1 ≡ p → Next g up p x Here
  onto : stands p x ≡ false → first (legal g up) (stands p) (most g) x < g.links →
      (legal g up).may x (first (legal g up) (stands p) (most g) x) ≡ true →
      suc (shortest (legal g up) (stands p) (most g) (up (first (legal g up) (stands p) (most g) x), g.to (first (legal g up) (stands p) (most g) x))) ≡ shortest (legal g up) (stands p) (most g) x →
      Next g up p x (Link (first (legal g up) (stands p) (most g) x))

-- going by table t, a block for place p comes from channel c to channel e
pub data Comes (t : ℕ → ℕ → Entry) (p : ℕ) : ℕ → ℕ → Type 0 where
  same : {c : ℕ} → Comes t p c c
  by : {c d e : ℕ} → t c p ≡ Link d → Comes t p d e → Comes t p c e

pub comes_on : (t : ℕ → ℕ → Entry) (p d c e : ℕ) → Comes t p c e → t e p ≡ Link d → Comes t p c d
comes_on t p d c e same q = by q same
comes_on t p d c e (by {d = b} h r) q = by h (comes_on t p d b e r q)

pub linked : (e : Entry) (d k : ℕ) → e ≡ Link d → e ≡ Link k → d ≡ k
linked e d k p q = cc

pub not_both : (e : Entry) (k : ℕ) → e ≡ Here → e ≡ Link k → ⊥
not_both e k p q = let z : ◌≡◌ {A = ℕ} 0 1 = cc in omega arith

module _ (g : Graph) (up : ℕ → Bool) where
  -- a link's end is where it leads
  pub start_link : (k : ℕ) → k < g.links → start g up k ≡ (up k, g.to k)
  start_link k l = cond-true (ltb k g.links) (up k, g.to k) (true, k - g.links) (lt-ltb k g.links l)

  pub start_door : (s : ℕ) → start g up (g.links + s) ≡ (true, s)
  start_door s =
      let q : (g.links + s) - g.links ≡ s = omega arith in
      cond-false (ltb (g.links + s) g.links) (up (g.links + s), g.to (g.links + s)) (true, (g.links + s) - g.links) (le-ltb (g.links + s) g.links (omega arith))
      ∙ ap (λ (v : ℕ). (true, v)) q

  module _ (p : ℕ) where
    abbrev pub far : Bool × ℕ → ℕ
    far x = shortest (legal g up) (stands p) (most g) x

    pub here_at : (x : Bool × ℕ) → stands p x ≡ true → onward g up p x ≡ Here
    here_at x e = cond-true (stands p x) Here (cond (ltb (far x) (most g)) (Link (first (legal g up) (stands p) (most g) x)) Here) e

    pub away_at : (x : Bool × ℕ) → stands p x ≡ false → far x < most g → onward g up p x ≡ Link (first (legal g up) (stands p) (most g) x)
    away_at x e l =
        cond-false (stands p x) Here (cond (ltb (far x) (most g)) (Link (first (legal g up) (stands p) (most g) x)) Here) e
        ∙ cond-true (ltb (far x) (most g)) (Link (first (legal g up) (stands p) (most g) x)) Here (lt-ltb (far x) (most g) l)

    pub next_of : (x : Bool × ℕ) → far x < most g → Next g up p x (onward g up p x)
    next_of x l = ⊎_elim at_it away (cases_Bool (stands p x))
      where
        at_it : stands p x ≡ true → Next g up p x (onward g up p x)
        at_it e = subst (λ (v : Entry). Next g up p x v) (sym (here_at x e)) (arrived (eqb-true x.1 p e))

        away : stands p x ≡ false → Next g up p x (onward g up p x)
        away e =
            let f = first_is (legal g up) (stands p) (most g) x l e in
            subst (λ (v : Entry). Next g up p x v) (sym (away_at x e l)) (onto e f.0 f.1 f.2)

    -- an entry that is a link is the first one, from a state that is near enough
    pub link_far : (x : Bool × ℕ) (d : ℕ) → onward g up p x ≡ Link d → far x < most g
    link_far x d q = ⊎_elim (λ (l : far x < most g). l) (λ l. absurd (⊎_elim
        (λ (e : stands p x ≡ true). not_both (onward g up p x) d (here_at x e) q)
        (λ e. not_both (onward g up p x) d
        (cond-false (stands p x) Here (cond (ltb (far x) (most g)) (Link (first (legal g up) (stands p) (most g) x)) Here) e
        ∙ cond-false (ltb (far x) (most g)) (Link (first (legal g up) (stands p) (most g) x)) Here (le-ltb (far x) (most g) l)) q)
        (cases_Bool (stands p x)))) (cases_lt (far x) (most g))

    Taken : Bool × ℕ → ℕ → Type 0
    Taken x d = (d < g.links) × ((legal g up).may x d ≡ true) × (suc (far (up d, g.to d)) ≡ far x) × (stands p x ≡ false) × (d ≡ first (legal g up) (stands p) (most g) x)

    taken : (x : Bool × ℕ) (d : ℕ) (e : Entry) → Next g up p x e → e ≡ Link d → Taken x d
    unfolding Taken
    taken x d _ (arrived a) q = absurd (not_both Here d refl q)
    taken x d _ (onto e a b c) q =
        let k : first (legal g up) (stands p) (most g) x ≡ d = linked (Link (first (legal g up) (stands p) (most g) x)) (first (legal g up) (stands p) (most g) x) d refl q in
        subst (λ (j : ℕ). (j < g.links) × ((legal g up).may x j ≡ true) × (suc (far (up j, g.to j)) ≡ far x) × (stands p x ≡ false) × (j ≡ first (legal g up) (stands p) (most g) x)) k (a, b, c, e, refl)

    pub link_is : (x : Bool × ℕ) (d : ℕ) → onward g up p x ≡ Link d →
        (d < g.links) × ((legal g up).may x d ≡ true) × (suc (far (up d, g.to d)) ≡ far x) × (stands p x ≡ false) × (d ≡ first (legal g up) (stands p) (most g) x)
    unfolding Taken
    link_is x d q = taken x d (onward g up p x) (next_of x (link_far x d q)) q

    -- from channel to channel it comes one nearer
    pub nearer : (c d : ℕ) → whole g up c p ≡ Link d → suc (far (start g up d)) ≡ far (start g up c)
    nearer c d q = let t = link_is (start g up c) d q in ap (λ (x : Bool × ℕ). suc (far x)) (start_link d t.0) ∙ t.2

    passes_more : (t : ℕ → ℕ → Entry) (n m c e : ℕ) → n ≤ m → passes t p n c e ≡ true → passes t p m c e ≡ true
    unfolding passes
    passes_more t zero zero c e l h = h
    passes_more t zero (suc m) c e l h = or_left (eqb c e) (goes_on (λ d. passes t p m d e) (t c p)) h
    passes_more t (suc n) zero c e l h = absurd (omega arith)
    passes_more t (suc n) (suc m) c e l h = go (λ d i. passes_more t n m d e (omega arith) i) (t c p) (or_cases (eqb c e) (goes_on (λ d. passes t p n d e) (t c p)) h)
      where
        on : ((d : ℕ) → passes t p n d e ≡ true → passes t p m d e ≡ true) → (v : Entry) → goes_on (λ d. passes t p n d e) v ≡ true → goes_on (λ d. passes t p m d e) v ≡ true
        on f Here i = i
        on f (Link d) i = f d i

        go : ((d : ℕ) → passes t p n d e ≡ true → passes t p m d e ≡ true) → (v : Entry) → (eqb c e ≡ true) ⊎ (goes_on (λ d. passes t p n d e) v ≡ true) → (eqb c e || goes_on (λ d. passes t p m d e) v) ≡ true
        go f v (inl i) = or_left (eqb c e) (goes_on (λ d. passes t p m d e) v) i
        go f v (inr i) = or_right (eqb c e) (goes_on (λ d. passes t p m d e) v) (on f v i)

    pub passes_comes : (t : ℕ → ℕ → Entry) (n c e : ℕ) → passes t p n c e ≡ true → Comes t p c e
    unfolding passes
    passes_comes t zero c e h = subst (λ (v : ℕ). Comes t p c v) (eqb-true c e h) same
    passes_comes t (suc n) c e h = ⊎_elim (λ (i : eqb c e ≡ true). subst (λ (v : ℕ). Comes t p c v) (eqb-true c e i) same) (λ i. go (λ d j. passes_comes t n d e j) (t c p) refl i) (or_cases (eqb c e) (goes_on (λ d. passes t p n d e) (t c p)) h)
      where
        go : ((d : ℕ) → passes t p n d e ≡ true → Comes t p d e) → (v : Entry) → t c p ≡ v → goes_on (λ d. passes t p n d e) v ≡ true → Comes t p c e
        go f Here q i = absurd (both_ways false refl i)
        go f (Link d) q i = by q (f d i)

    pub comes_passes : (c e n : ℕ) → far (start g up c) ≡ n → Comes (whole g up) p c e → passes (whole g up) p n c e ≡ true
    unfolding passes
    comes_passes c e zero f same = eq-eqb c c refl
    comes_passes c e (suc n) f same = or_left (eqb c c) (goes_on (λ d. passes (whole g up) p n d c) (whole g up c p)) (eq-eqb c c refl)
    comes_passes c e zero f (by {d = d} q r) = let a = nearer c d q in absurd (omega arith)
    comes_passes c e (suc n) f (by {d = d} q r) =
        let a = nearer c d q in
        let h = comes_passes d e n (omega arith) r in
        or_right (eqb c e) (goes_on (λ b. passes (whole g up) p n b e) (whole g up c p)) (subst (λ (v : Entry). goes_on (λ b. passes (whole g up) p n b e) v ≡ true) (sym q) h)

    pub met_comes : (e : ℕ) → met g up e p ≡ true → (s : ℕ) × (s < g.n) × Comes (whole g up) p (g.links + s) e
    unfolding met
    met_comes e h =
        let o = some_one (λ s. passes (whole g up) p (2 * g.n) (g.links + s) e) g.n h in
        (o.0, o.1, passes_comes (whole g up) (2 * g.n) (g.links + o.0) e o.2)

    pub comes_met : (e s : ℕ) → s < g.n → far (start g up (g.links + s)) < most g → Comes (whole g up) p (g.links + s) e → met g up e p ≡ true
    unfolding met
    comes_met e s l f r =
        some_from (λ i. passes (whole g up) p (2 * g.n) (g.links + i) e) g.n s l
        (passes_more (whole g up) (far (start g up (g.links + s))) (2 * g.n) (g.links + s) e (omega arith) (comes_passes (g.links + s) e (far (start g up (g.links + s))) refl r))

    pub comes_far : (c e : ℕ) → Comes (whole g up) p c e → far (start g up c) < most g → far (start g up e) < most g
    comes_far c e same l = l
    comes_far c e (by {d = d} q r) l = comes_far d e r (let a = nearer c d q in omega arith)

module _ (g : Graph) (z : Sound g) (r : ℕ) (lr : r < g.n) where
  abbrev ups : ℕ → Bool
  ups = goes_up g (level g r)

  -- every place is near enough from every door
  pub door_far : (p s : ℕ) → p < g.n → s < g.n → shortest (legal g (goes_up g (level g r))) (stands p) (most g) (start g (goes_up g (level g r)) (g.links + s)) < most g
  door_far p s lp ls =
      let w = legal_roads g z r lr s p ls lp in
      let a = none_shorter (legal g (goes_up g (level g r))) (stands p) (most g) (true, s) w.0 w.1 in
      let b = z.joined s r ls lr in
      let c = z.joined p r lp lr in
      let d = w.2 in
      let e : shortest (legal g (goes_up g (level g r))) (stands p) (most g) (start g (goes_up g (level g r)) (g.links + s)) ≡ shortest (legal g (goes_up g (level g r))) (stands p) (most g) (true, s) =
      ap (shortest (legal g (goes_up g (level g r))) (stands p) (most g)) (start_door g (goes_up g (level g r)) s) in
      omega arith

  pub met_far : (p c : ℕ) → p < g.n → met g (goes_up g (level g r)) c p ≡ true → shortest (legal g (goes_up g (level g r))) (stands p) (most g) (start g (goes_up g (level g r)) c) < most g
  met_far p c lp h =
      let m = met_comes g (goes_up g (level g r)) p c h in
      comes_far g (goes_up g (level g r)) p (g.links + m.0) c m.2 (door_far p m.0 lp m.1)

  pub met_on : (p c d : ℕ) → p < g.n → met g (goes_up g (level g r)) c p ≡ true → whole g (goes_up g (level g r)) c p ≡ Link d → met g (goes_up g (level g r)) d p ≡ true
  met_on p c d lp h q =
      let m = met_comes g (goes_up g (level g r)) p c h in
      comes_met g (goes_up g (level g r)) p d m.0 m.1 (door_far p m.0 lp m.1) (comes_on (whole g (goes_up g (level g r))) p d (g.links + m.0) c m.2 q)

  pub met_door : (p s : ℕ) → p < g.n → s < g.n → met g (goes_up g (level g r)) (g.links + s) p ≡ true
  met_door p s lp ls = comes_met g (goes_up g (level g r)) p (g.links + s) s ls (door_far p s lp ls) same
