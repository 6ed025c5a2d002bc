-- The theorems of the table: the roads that it walks, where entries are here, and the net of its layout. Assumes nothing.
use Rattle.std.proofs.Common.{◌≡◌, ℕ, zero, suc, ◌+◌, ◌-◌, ◌*◌, ◌<◌, ◌≤◌, Bool, true, false, cond, ltb, ◌⊎◌, List, [], ◌∷◌, length, get_or, vec_items, vec_len, sym, refl, ap, ◌∙◌, subst, inl, inr, ⊎_elim, mul-le-mul_right, arith}
use Rattle.std.proofs.lemmas.List.{get_or_past}
use Rattle.std.proofs.lemmas.Bool.{eqb-true, eq-eqb, lt-ltb, le-ltb, cases_Bool, cases_lt, cond-true, cond-false, both_ways}
use Rattle.net.specs.declared.Entry.{Entry}
use Rattle.net.specs.declared.Entry.TheVariants.{Here, Link}
use Rattle.net.specs.declared.layout.Layout.{Layout}
use Rattle.net.specs.Layout.{net_of}
use Rattle.net.specs.Net.{Leads, there, along}
use Rattle.roads.specs.Roads.{Road, there as stay, along as goBy, shortest, first}
use Rattle.roads.proofs.Roads.{first_lowest, none_shorter, shortest_goal}
use Rattle.graph.specs.Graph.{Graph}
use Rattle.graph.specs.Tree.{level}
use Rattle.tree.specs.Legal.{goes_up, rank_of, legal, stands}
use Rattle.tree.specs.Laws.{Sound}
use Rattle.tree.proofs.Rising.{ranks_rise}
use Rattle.table.specs.Kept.{most, start, whole, met, kept}
use Rattle.table.specs.Laid.{Laid, net_for}
use Rattle.table.specs.Laws.{Takes, come, next, Lowest, end, low, RoadsAreRight, HereWhereItShould, LaidIsGood}
use Rattle.table.proofs.Follow.{Next, arrived, onto, not_both, start_link, start_door, here_at, away_at, next_of, link_is, met_far, met_on, met_door}

-- the road that the table walks from channel c to place p
record Way (g : Graph) (up : ℕ → Bool) (p c : ℕ) : Type 0 where
  road : List ℕ
  taken : Takes (kept g up) p c road
  is_legal : Road (legal g up) (stands p) (start g up c) road
  long : length road ≡ shortest (legal g up) (stands p) (most g) (start g up c)
  lowest : Lowest g up p (start g up c) road

kept_met : (g : Graph) (up : ℕ → Bool) (c p : ℕ) → met g up c p ≡ true → kept g up c p ≡ whole g up c p
kept_met g up c p e = cond-true (met g up c p) (whole g up c p) Here e

kept_not : (g : Graph) (up : ℕ → Bool) (c p : ℕ) → met g up c p ≡ false → kept g up c p ≡ Here
kept_not g up c p e = cond-false (met g up c p) (whole g up c p) Here e

-- an entry that is a link is met
kept_link : (g : Graph) (up : ℕ → Bool) (c p d : ℕ) → kept g up c p ≡ Link d → (met g up c p ≡ true) × (whole g up c p ≡ Link d)
kept_link g up c p d q = ⊎_elim (λ (e : met g up c p ≡ true). (e, sym (kept_met g up c p e) ∙ q))
    (λ e. absurd (not_both (kept g up c p) d (kept_not g up c p e) q)) (cases_Bool (met g up c p))

module _ (g : Graph) (z : Sound g) (r : ℕ) (lr : r < g.n) (p : ℕ) (lp : p < g.n) where
  abbrev up : ℕ → Bool
  up = goes_up g (level g r)

  abbrev far : Bool × ℕ → ℕ
  far x = shortest (legal g (goes_up g (level g r))) (stands p) (most g) x

  come_way : (c : ℕ) → met g up c p ≡ true → whole g up c p ≡ Here → (start g up c).1 ≡ p → Way g up p c
  come_way c h q a = record {
    road = [];
    taken = come (kept_met g up c p h ∙ q);
    is_legal = stay (eq-eqb (start g up c).1 p a);
    long = sym (shortest_goal (legal g up) (stands p) (most g) (start g up c) (eq-eqb (start g up c).1 p a));
    lowest = end;
  }

  next_way : (c k : ℕ) → met g up c p ≡ true → whole g up c p ≡ Link k → far (start g up c) < most g → Way g up p k → Way g up p c
  next_way c k h q f w =
      let t = link_is g up p (start g up c) k q in
      let s = start_link g up k t.0 in
      let e : far (start g up k) ≡ far (up k, g.to k) = ap (shortest (legal g (goes_up g (level g r))) (stands p) (most g)) s in
      let a = t.2 in
      let b = w.long in
      record {
        road = k ∷ w.road;
        taken = next (kept_met g up c p h ∙ q) w.taken;
        is_legal = goBy t.0 t.1 (subst (λ (x : Bool × ℕ). Road (legal g up) (stands p) x w.road) s w.is_legal);
        long = omega arith;
        lowest = low (λ j js d l.
            let n = none_shorter (legal g up) (stands p) (most g) (start g up c) (j ∷ js) d in
            subst (λ (i : ℕ). i ≤ j) (sym t.4) (first_lowest (legal g up) (stands p) (most g) (start g up c) j js d (omega arith) f))
            (subst (λ (x : Bool × ℕ). Lowest g up p x w.road) s w.lowest);
      }

  -- one link nearer with each step
  way_at : (m c : ℕ) → met g up c p ≡ true → far (start g up c) ≡ m → Way g up p c
  way_at zero c h f = go (whole g up c p) refl (next_of g up p (start g up c) (met_far g z r lr p c lp h))
    where
      go : (v : Entry) → whole g up c p ≡ v → Next g up p (start g up c) v → Way g up p c
      go _ q (arrived a) = come_way c h q a
      go _ q (onto b o u v) = absurd (omega arith)
  way_at (suc m) c h f = go (λ k e b. way_at m k e b) (whole g up c p) refl (next_of g up p (start g up c) (met_far g z r lr p c lp h))
    where
      go : ((k : ℕ) → met g up k p ≡ true → far (start g up k) ≡ m → Way g up p k) → (v : Entry) → whole g up c p ≡ v → Next g up p (start g up c) v → Way g up p c
      go rest _ q (arrived a) = come_way c h q a
      go rest _ q (onto b o u v) =
          let k = first (legal g up) (stands p) (most g) (start g up c) in
          let e : far (start g up (first (legal g up) (stands p) (most g) (start g up c))) ≡ far (up (first (legal g up) (stands p) (most g) (start g up c)), g.to (first (legal g up) (stands p) (most g) (start g up c))) =
          ap (shortest (legal g (goes_up g (level g r))) (stands p) (most g)) (start_link g up (first (legal g up) (stands p) (most g) (start g up c)) o) in
          next_way c (first (legal g up) (stands p) (most g) (start g up c)) h q (met_far g z r lr p c lp h)
          (rest (first (legal g up) (stands p) (most g) (start g up c)) (met_on g z r lr p c (first (legal g up) (stands p) (most g) (start g up c)) lp h q) (omega arith))

  way_of : (c : ℕ) → met g up c p ≡ true → Way g up p c
  way_of c h = way_at (far (start g up c)) c h refl

pub roads_right : RoadsAreRight
roads_right g z r lr s p ls lp =
    let w = way_of g z r lr p lp (g.links + s) (met_door g z r lr p s lp ls) in
    let d = start_door g (goes_up g (level g r)) s in
    let e : shortest (legal g (goes_up g (level g r))) (stands p) (most g) (start g (goes_up g (level g r)) (g.links + s)) ≡ shortest (legal g (goes_up g (level g r))) (stands p) (most g) (true, s) =
    ap (shortest (legal g (goes_up g (level g r))) (stands p) (most g)) d in
    let b = w.long in
    record {
      road = w.road;
      taken = w.taken;
      is_legal = subst (λ (x : Bool × ℕ). Road (legal g (goes_up g (level g r))) (stands p) x w.road) d w.is_legal;
      short = λ ks h. (let a = none_shorter (legal g (goes_up g (level g r))) (stands p) (most g) (true, s) ks h in omega arith);
      lowest = subst (λ (x : Bool × ℕ). Lowest g (goes_up g (level g r)) p x w.road) d w.lowest;
    }

pub here_right : HereWhereItShould
here_right g z r lr c p lc lp = (out, into)
  where
    out : kept g (goes_up g (level g r)) c p ≡ Here → ((start g (goes_up g (level g r)) c).1 ≡ p) ⊎ (met g (goes_up g (level g r)) c p ≡ false)
    out q = ⊎_elim
        (λ (h : met g (goes_up g (level g r)) c p ≡ true). ⊎_elim
        (λ (e : stands p (start g (goes_up g (level g r)) c) ≡ true). inl (eqb-true (start g (goes_up g (level g r)) c).1 p e))
        (λ e. absurd (not_both (kept g (goes_up g (level g r)) c p) (first (legal g (goes_up g (level g r))) (stands p) (most g) (start g (goes_up g (level g r)) c)) q
        (kept_met g (goes_up g (level g r)) c p h ∙ away_at g (goes_up g (level g r)) p (start g (goes_up g (level g r)) c) e (met_far g z r lr p c lp h))))
        (cases_Bool (stands p (start g (goes_up g (level g r)) c))))
        (λ h. inr h) (cases_Bool (met g (goes_up g (level g r)) c p))

    into : ((start g (goes_up g (level g r)) c).1 ≡ p) ⊎ (met g (goes_up g (level g r)) c p ≡ false) → kept g (goes_up g (level g r)) c p ≡ Here
    into (inr h) = kept_not g (goes_up g (level g r)) c p h
    into (inl a) = ⊎_elim
        (λ (h : met g (goes_up g (level g r)) c p ≡ true). kept_met g (goes_up g (level g r)) c p h ∙ here_at g (goes_up g (level g r)) p (start g (goes_up g (level g r)) c) (eq-eqb (start g (goes_up g (level g r)) c).1 p a))
        (λ h. kept_not g (goes_up g (level g r)) c p h) (cases_Bool (met g (goes_up g (level g r)) c p))

module _ (g : Graph) (z : Sound g) (r : ℕ) (lr : r < g.n) (room : ℕ) (l : Layout) (a : Laid g r room l) where
  -- what the net says, inside of the table and outside
  next_in : (c p : ℕ) → c < g.links + g.n → p < g.n → (net_of l).next c p ≡ kept g (goes_up g (level g r)) c p
  next_in c p lc lp =
      let q : l.places ≡ g.n = a.places in
      cond-true (ltb p l.places) (get_or (vec_items l.table) (c * l.places + p) Here) Here (lt-ltb p l.places (omega arith))
      ∙ ap (λ (m : ℕ). get_or (vec_items l.table) (c * m + p) Here) q ∙ a.table c p lc lp

  next_out : (c p : ℕ) → (g.n ≤ p) ⊎ (g.links + g.n ≤ c) → (net_of l).next c p ≡ Here
  next_out c p (inl h) =
      let q : l.places ≡ g.n = a.places in
      cond-false (ltb p l.places) (get_or (vec_items l.table) (c * l.places + p) Here) Here (le-ltb p l.places (omega arith))
  next_out c p (inr h) = ⊎_elim (λ (o : l.places ≤ p). cond-false (ltb p l.places) (get_or (vec_items l.table) (c * l.places + p) Here) Here (le-ltb p l.places o))
      (λ o. cond-true (ltb p l.places) (get_or (vec_items l.table) (c * l.places + p) Here) Here (lt-ltb p l.places o) ∙ get_or_past (vec_items l.table) (c * l.places + p) Here past)
      (cases_le l.places p)
    where
      past : length (vec_items l.table) ≤ c * l.places + p
      past =
          let q : c * l.places ≡ c * g.n = ap (λ (m : ℕ). c * m) a.places in
          let m : (g.links + g.n) * g.n ≤ c * g.n = mul-le-mul_right g.n h in
          let s = a.size in
          omega arith

      cases_le : (m n : ℕ) → (m ≤ n) ⊎ (n < m)
      cases_le m n = ⊎_elim (λ (x : n < m). inr x) (λ x. inl x) (cases_lt n m)

  Inside : ℕ → ℕ → ℕ → Type 0
  Inside c p e = (c < g.links + g.n) × (p < g.n) × (whole g (goes_up g (level g r)) c p ≡ Link e)

  inside : (c p e : ℕ) → (net_of l).next c p ≡ Link e → Inside c p e
  unfolding Inside
  inside c p e q = ⊎_elim
      (λ (lp : p < g.n). ⊎_elim
      (λ (lc : c < g.links + g.n). (lc, lp, (kept_link g (goes_up g (level g r)) c p e (sym (next_in c p lc lp) ∙ q)).1))
      (λ h. absurd (not_both ((net_of l).next c p) e (next_out c p (inr h)) q)) (cases_lt c (g.links + g.n)))
      (λ h. absurd (not_both ((net_of l).next c p) e (next_out c p (inl h)) q)) (cases_lt p g.n)

  rises : (c p e : ℕ) → (net_of l).next c p ≡ Link e → (e < l.links) × ((net_of l).rank c < (net_of l).rank e)
  unfolding Inside
  rises c p e q =
      let i = inside c p e q in
      let t = link_is g (goes_up g (level g r)) p (start g (goes_up g (level g r)) c) e i.2 in
      let k : l.links ≡ g.links = a.links in
      let o = t.0 in
      let re = a.ranks e t.0 in
      let up = ranks_rise g z r lr e t.0 in (
        omega arith,
        ⊎_elim
            (λ (lc : c < g.links).
            let rc = a.ranks c lc in
            let b = up.1 c lc (subst (λ (x : Bool × ℕ). (legal g (goes_up g (level g r))).may x e ≡ true) (start_link g (goes_up g (level g r)) c lc) t.1) in
            omega arith)
            (λ h. let rc = a.door_ranks c h in let b = up.0 in omega arith)
            (cases_lt c g.links),
      )

  -- where a channel ends, by the net and by the state
  ends_at : (c : ℕ) → c < g.links + g.n → (net_of l).ends c ≡ (start g (goes_up g (level g r)) c).1
  ends_at c lc = ⊎_elim
      (λ (h : c < g.links).
      let k : l.links ≡ g.links = a.links in
      cond-true (ltb c l.links) (get_or (vec_items l.ends) c 0) (c - l.links) (lt-ltb c l.links (omega arith)) ∙ a.ends c h
      ∙ ap (λ (x : Bool × ℕ). x.1) (sym (start_link g (goes_up g (level g r)) c h)))
      (λ h.
      let k : l.links ≡ g.links = a.links in
      let q : c ≡ g.links + (c - g.links) = omega arith in
      cond-false (ltb c l.links) (get_or (vec_items l.ends) c 0) (c - l.links) (le-ltb c l.links (omega arith))
      ∙ ap (λ (m : ℕ). c - m) k
      ∙ ap (λ (x : Bool × ℕ). x.1) (sym (ap (start g (goes_up g (level g r))) q ∙ start_door g (goes_up g (level g r)) (c - g.links))))
      (cases_lt c g.links)

  leads_by : (p c : ℕ) (ks : List ℕ) → p < g.n → c < g.links + g.n → Takes (kept g (goes_up g (level g r))) p c ks → met g (goes_up g (level g r)) c p ≡ true → Leads (net_of l) p c
  leads_by p c _ lp lc (come e) h = there (next_in c p lc lp ∙ e) (ends_at c lc ∙ own)
    where
      own : (start g (goes_up g (level g r)) c).1 ≡ p
      own = ⊎_elim (λ (x : (start g (goes_up g (level g r)) c).1 ≡ p). x) (λ x. absurd (both_ways (met g (goes_up g (level g r)) c p) x h)) ((here_right g z r lr c p lc lp).0 e)
  leads_by p c _ lp lc (next {k = k} {ks = ks} e t) h =
      let w = (kept_link g (goes_up g (level g r)) c p k e).1 in
      let o = (link_is g (goes_up g (level g r)) p (start g (goes_up g (level g r)) c) k w).0 in
      along (next_in c p lc lp ∙ e) (leads_by p k ks lp (omega arith) t (met_on g z r lr p c k lp h w))

  next_is : (c p : ℕ) → (net_of l).next c p ≡ (net_for g r room).next c p
  next_is c p = ⊎_elim
      (λ (lp : p < g.n).
      sym (cond-true (ltb p g.n) _ Here (lt-ltb p g.n lp) ∙ ⊎_elim
      (λ (lc : c < g.links + g.n). cond-true (ltb c (g.links + g.n)) (kept g (goes_up g (level g r)) c p) Here (lt-ltb c (g.links + g.n) lc) ∙ sym (next_in c p lc lp))
      (λ h. cond-false (ltb c (g.links + g.n)) (kept g (goes_up g (level g r)) c p) Here (le-ltb c (g.links + g.n) h) ∙ sym (next_out c p (inr h)))
      (cases_lt c (g.links + g.n))))
      (λ h. next_out c p (inl h) ∙ sym (cond-false (ltb p g.n) _ Here (le-ltb p g.n h))) (cases_lt p g.n)

  rank_is : (c : ℕ) → (net_of l).rank c ≡ (net_for g r room).rank c
  rank_is c = ⊎_elim
      (λ (h : c < g.links). a.ranks c h ∙ sym (cond-true (ltb c g.links) (rank_of g (level g r) (goes_up g (level g r)) c) 0 (lt-ltb c g.links h)))
      (λ h. a.door_ranks c h ∙ sym (cond-false (ltb c g.links) (rank_of g (level g r) (goes_up g (level g r)) c) 0 (le-ltb c g.links h)))
      (cases_lt c g.links)

  ends_is : (c : ℕ) → (net_of l).ends c ≡ (net_for g r room).ends c
  ends_is c = ap (λ (m : ℕ). cond (ltb c m) (get_or (vec_items l.ends) c 0) (c - m)) a.links ∙ ⊎_elim
      (λ (h : c < g.links).
      cond-true (ltb c g.links) (get_or (vec_items l.ends) c 0) (c - g.links) (lt-ltb c g.links h) ∙ a.ends c h
      ∙ sym (cond-true (ltb c g.links) (g.to c) (c - g.links) (lt-ltb c g.links h)))
      (λ h.
      cond-false (ltb c g.links) (get_or (vec_items l.ends) c 0) (c - g.links) (le-ltb c g.links h)
      ∙ sym (cond-false (ltb c g.links) (g.to c) (c - g.links) (le-ltb c g.links h)))
      (cases_lt c g.links)

  -- the layout's net is the one that is worked out with no layout
  pub laid_net : net_of l ≡ net_for g r room
  laid_net = λ i. record {
    links = a.links i;
    doors = a.doors i;
    places = a.places i;
    store = a.room i;
    next = λ c p. next_is c p i;
    rank = λ c. rank_is c i;
    ends = λ c. ends_is c i;
  }

pub laid_good : LaidIsGood
laid_good g z few short r lr room some most₁ l a =
    let tl : vec_len l.table ≡ length (vec_items l.table) = l.table.ok.0 in
    let rl : vec_len l.ranks ≡ length (vec_items l.ranks) = l.ranks.ok.0 in
    let el : vec_len l.ends ≡ length (vec_items l.ends) = l.ends.ok.0 in
    let k : l.links ≡ g.links = a.links in
    let d : l.doors ≡ g.n = a.doors in
    let q : l.places ≡ g.n = a.places in
    let m : l.room ≡ room = a.room in
    let ts = a.size in
    let rs = a.ranked in
    let es = a.ended in
    let pr : (l.links + l.doors) * l.places ≡ (g.links + g.n) * g.n = ap (λ (v : ℕ). (v + l.doors) * l.places) k ∙ ap (λ (v : ℕ). (g.links + v) * l.places) d ∙ ap (λ (v : ℕ). (g.links + g.n) * v) q in
    record {
      sized = record { few = omega arith; doors = omega arith; places = omega arith; some = omega arith; most = omega arith; table = tl ∙ ts ∙ sym pr; ranks = omega arith; ends = omega arith };
      good = record { some = omega arith; rises = rises g z r lr room l a };
      leads = λ s p ls lp.
          let w = way_of g z r lr p lp (g.links + s) (met_door g z r lr p s lp ls) in
          leads_by g z r lr room l a p (g.links + s) w.road lp (omega arith) w.taken (met_door g z r lr p s lp ls);
    }
