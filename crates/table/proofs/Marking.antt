-- A road walked from a door: what is marked is met, and marks are closed under going on. Assumes nothing.
use Rattle.std.proofs.Common.{◌≡◌, ℕ, ◌+◌, ◌*◌, ◌%◌, ◌^◌, ◌<◌, ◌≤◌, Bool, true, false, ◌&&◌, ◌||◌, eqb, ◌⊎◌, List, length, get_or, set, sym, refl, ap, ◌∙◌, subst, inl, inr, ⊎_elim, arith}
use lib.Bits.{bit_or}
use Rattle.std.proofs.lemmas.List.{get_or-set_same, get_or-set_other}
use Rattle.std.proofs.lemmas.Bool.{eqb-true, eq-eqb, ne_eqb, cases_Bool, cases_eq, and_parts, and_from, and_left, or_cases, or_left, or_right, both_ways}
use Rattle.net.specs.declared.Entry.TheVariants.{Here, Link}
use Rattle.roads.specs.Roads.{shortest}
use Rattle.graph.specs.Graph.{Graph}
use Rattle.graph.specs.Sets.{has}
use Rattle.graph.proofs.Bits.{has_or, has_shl}
use Rattle.tree.specs.Legal.{legal, stands}
use Rattle.table.specs.Kept.{most, start, whole, met}
use Rattle.table.specs.Marked.{marked, OnlyMet, Closed, Opened, More, Walks}
use Rattle.table.proofs.Follow.{Comes, same, by, comes_on, linked, not_both, link_is, met_comes, comes_met}

-- the link that an entry names is there
pub there_of : (g : Graph) (up : ℕ → Bool) (p c k : ℕ) (ms : List ℕ) → whole g up c p ≡ Link k → length ms ≡ g.links → k < length ms
there_of g up p c k ms e q = let l = (link_is g up p (start g up c) k e).0 in omega arith

-- one mark more
marks_put : (ms : List ℕ) (k p i q : ℕ) → k < length ms → p < 64 →
    marked (set ms k (bit_or (get_or ms k 0) ((1 * 2 ^ p) % 2 ^ 64))) i q ≡ (marked ms i q || (eqb i k && eqb p q))
marks_put ms k p i q l w = ⊎_elim here other (cases_eq i k)
  where
    here : i ≡ k → marked (set ms k (bit_or (get_or ms k 0) ((1 * 2 ^ p) % 2 ^ 64))) i q ≡ (marked ms i q || (eqb i k && eqb p q))
    here e = subst (λ (m : ℕ). marked (set ms k (bit_or (get_or ms k 0) ((1 * 2 ^ p) % 2 ^ 64))) m q ≡ (marked ms m q || (eqb m k && eqb p q))) (sym e)
        (ap (λ (u : ℕ). has u q) (get_or-set_same ms k (bit_or (get_or ms k 0) ((1 * 2 ^ p) % 2 ^ 64)) 0 l) ∙ has_or (get_or ms k 0) ((1 * 2 ^ p) % 2 ^ 64) q
        ∙ ap (λ (b : Bool). has (get_or ms k 0) q || b) (has_shl p q w) ∙ ap (λ (b : Bool). has (get_or ms k 0) q || (b && eqb p q)) (sym (eq-eqb k k refl)))

    other : (i ≡ k → ⊥) → marked (set ms k (bit_or (get_or ms k 0) ((1 * 2 ^ p) % 2 ^ 64))) i q ≡ (marked ms i q || (eqb i k && eqb p q))
    other ne = ap (λ (u : ℕ). has u q) (get_or-set_other ms k i (bit_or (get_or ms k 0) ((1 * 2 ^ p) % 2 ^ 64)) 0 ne) ∙ or_none (marked ms i q)
        ∙ ap (λ (b : Bool). marked ms i q || b) (sym (and_left (eqb i k) (eqb p q) (ne_eqb i k ne)))
      where
        or_none : (b : Bool) → b ≡ (b || false)
        or_none true = refl
        or_none false = refl

-- on the way from door s to place p, at channel c: all is closed but for c itself
pub record Going (g : Graph) (up : ℕ → Bool) (s p : ℕ) (ms₀ ms : List ℕ) (c : ℕ) : Type 0 where
  pub below : c < g.links + g.n
  pub comes : Comes (whole g up) p (g.links + s) c
  pub more : More ms₀ ms
  pub only : OnlyMet g up ms₀ → OnlyMet g up ms
  pub closing : Closed g up ms₀ → (k q d : ℕ) → k < g.links → q < g.n → marked ms k q ≡ true → whole g up k q ≡ Link d → (marked ms d q ≡ true) ⊎ ((k ≡ c) × (q ≡ p))
  pub opening : (c ≡ g.links + s) ⊎ Opened g up ms s p

module _ (g : Graph) (up : ℕ → Bool) (s p : ℕ) (ls : s < g.n) (lp : p < g.n) (few : g.n ≤ 64)
    (near : shortest (legal g up) (stands p) (most g) (start g up (g.links + s)) < most g) (ms₀ : List ℕ) where
  pub going_start : Going g up s p ms₀ ms₀ (g.links + s)
  going_start = record { below = omega arith; comes = same; more = λ k q e. e; only = λ h. h; closing = λ h k q d l o e w. inl (h k q d l o e w); opening = inl refl }

  -- it has come
  pub going_here : (ms : List ℕ) (c : ℕ) → Going g up s p ms₀ ms c → whole g up c p ≡ Here → Walks g up s (λ q. q ≡ p) ms₀ ms
  going_here ms c h e = record {
    more = h.more;
    only = h.only;
    closed = λ z k q d l o m w. ⊎_elim (λ x. x) (λ x. absurd (not_both (whole g up c p) d e (subst (λ (i : ℕ). whole g up i p ≡ Link d) x.0 (subst (λ (i : ℕ). whole g up k i ≡ Link d) x.1 w)))) (h.closing z k q d l o m w);
    opened = λ q r d w. subst (λ (i : ℕ). marked ms d i ≡ true) (sym r) (⊎_elim
        (λ (x : c ≡ g.links + s). absurd (not_both (whole g up c p) d e (subst (λ (i : ℕ). whole g up i p ≡ Link d) (sym x) (subst (λ (i : ℕ). whole g up (g.links + s) i ≡ Link d) r w))))
        (λ x. x d (subst (λ (i : ℕ). whole g up (g.links + s) i ≡ Link d) r w)) h.opening);
  }

  -- the rest was walked before
  pub going_met : (ms : List ℕ) (c k : ℕ) → Going g up s p ms₀ ms c → whole g up c p ≡ Link k → marked ms k p ≡ true → Walks g up s (λ q. q ≡ p) ms₀ ms
  going_met ms c k h e t = record {
    more = h.more;
    only = h.only;
    closed = λ z b q d l o m w. ⊎_elim (λ x. x)
        (λ x. let y : k ≡ d = linked (whole g up c p) k d e (subst (λ (i : ℕ). whole g up i p ≡ Link d) x.0 (subst (λ (i : ℕ). whole g up b i ≡ Link d) x.1 w)) in
        subst (λ (i : ℕ). marked ms d i ≡ true) (sym x.1) (subst (λ (i : ℕ). marked ms i p ≡ true) y t)) (h.closing z b q d l o m w);
    opened = λ q r d w. subst (λ (i : ℕ). marked ms d i ≡ true) (sym r) (⊎_elim
        (λ (x : c ≡ g.links + s). let y : k ≡ d = linked (whole g up c p) k d e (subst (λ (i : ℕ). whole g up i p ≡ Link d) (sym x) (subst (λ (i : ℕ). whole g up (g.links + s) i ≡ Link d) r w)) in
        subst (λ (i : ℕ). marked ms i p ≡ true) y t)
        (λ x. x d (subst (λ (i : ℕ). whole g up (g.links + s) i ≡ Link d) r w)) h.opening);
  }

  -- one link on
  pub going_on : (ms : List ℕ) (c k : ℕ) → Going g up s p ms₀ ms c → whole g up c p ≡ Link k → k < length ms → Going g up s p ms₀ (set ms k (bit_or (get_or ms k 0) ((1 * 2 ^ p) % 2 ^ 64))) k
  going_on ms c k h e lk = record { below = omega (arith, k<l); comes = on; more = λ i q t. grow i q (h.more i q t); only = only'; closing = closing'; opening = inr opened' }
    where
      k<l : k < g.links
      k<l = (link_is g up p (start g up c) k e).0

      on : Comes (whole g up) p (g.links + s) k
      on = comes_on (whole g up) p k (g.links + s) c h.comes e

      grow : (i q : ℕ) → marked ms i q ≡ true → marked (set ms k (bit_or (get_or ms k 0) ((1 * 2 ^ p) % 2 ^ 64))) i q ≡ true
      grow i q t = marks_put ms k p i q lk (omega arith) ∙ or_left (marked ms i q) (eqb i k && eqb p q) t

      new : marked (set ms k (bit_or (get_or ms k 0) ((1 * 2 ^ p) % 2 ^ 64))) k p ≡ true
      new = marks_put ms k p k p lk (omega arith) ∙ or_right (marked ms k p) (eqb k k && eqb p p) (and_from (eqb k k) (eqb p p) (eq-eqb k k refl) (eq-eqb p p refl))

      which : (i q : ℕ) → marked (set ms k (bit_or (get_or ms k 0) ((1 * 2 ^ p) % 2 ^ 64))) i q ≡ true → (marked ms i q ≡ true) ⊎ ((i ≡ k) × (q ≡ p))
      which i q t = ⊎_elim (λ (x : marked ms i q ≡ true). inl x)
          (λ x. let y = and_parts (eqb i k) (eqb p q) x in inr (eqb-true i k y.0, sym (eqb-true p q y.1)))
          (or_cases (marked ms i q) (eqb i k && eqb p q) (sym (marks_put ms k p i q lk (omega arith)) ∙ t))

      only' : OnlyMet g up ms₀ → OnlyMet g up (set ms k (bit_or (get_or ms k 0) ((1 * 2 ^ p) % 2 ^ 64)))
      only' z i q l o t = ⊎_elim (λ (x : marked ms i q ≡ true). h.only z i q l o x)
          (λ x. subst (λ (m : ℕ). met g up m q ≡ true) (sym x.0) (subst (λ (m : ℕ). met g up k m ≡ true) (sym x.1) (comes_met g up p k s ls near on)))
          (which i q t)

      closing' : Closed g up ms₀ → (i q d : ℕ) → i < g.links → q < g.n → marked (set ms k (bit_or (get_or ms k 0) ((1 * 2 ^ p) % 2 ^ 64))) i q ≡ true → whole g up i q ≡ Link d →
          (marked (set ms k (bit_or (get_or ms k 0) ((1 * 2 ^ p) % 2 ^ 64))) d q ≡ true) ⊎ ((i ≡ k) × (q ≡ p))
      closing' z i q d l o t w = ⊎_elim
          (λ (x : marked ms i q ≡ true). ⊎_elim (λ (y : marked ms d q ≡ true). inl (grow d q y))
          (λ y. let b : k ≡ d = linked (whole g up c p) k d e (subst (λ (m : ℕ). whole g up m p ≡ Link d) y.0 (subst (λ (m : ℕ). whole g up i m ≡ Link d) y.1 w)) in
          inl (subst (λ (m : ℕ). marked (set ms k (bit_or (get_or ms k 0) ((1 * 2 ^ p) % 2 ^ 64))) d m ≡ true) (sym y.1) (subst (λ (m : ℕ). marked (set ms k (bit_or (get_or ms k 0) ((1 * 2 ^ p) % 2 ^ 64))) m p ≡ true) b new)))
          (h.closing z i q d l o x w))
          (λ x. inr x) (which i q t)

      opened' : Opened g up (set ms k (bit_or (get_or ms k 0) ((1 * 2 ^ p) % 2 ^ 64))) s p
      opened' d w = ⊎_elim
          (λ (x : c ≡ g.links + s). let b : k ≡ d = linked (whole g up c p) k d e (subst (λ (m : ℕ). whole g up m p ≡ Link d) (sym x) w) in
          subst (λ (m : ℕ). marked (set ms k (bit_or (get_or ms k 0) ((1 * 2 ^ p) % 2 ^ 64))) m p ≡ true) b new)
          (λ x. grow d p (x d w)) h.opening

-- at the end the marks of links are what is met
module _ (g : Graph) (up : ℕ → Bool) (ms : List ℕ) (only : OnlyMet g up ms) (closed : Closed g up ms)
    (opened : (s p : ℕ) → s < g.n → p < g.n → Opened g up ms s p) where
  reach : (p k c : ℕ) → p < g.n → k < g.links → c < g.links → marked ms c p ≡ true → Comes (whole g up) p c k → marked ms k p ≡ true
  reach p k c lp lk lc e same = e
  reach p k c lp lk lc e (by {d = d} q r) = reach p k d lp lk (link_is g up p (start g up c) d q).0 (closed c p d lc lp e q) r

  from_door : (p k s c : ℕ) → p < g.n → s < g.n → k < g.links → c ≡ g.links + s → Comes (whole g up) p c k → marked ms k p ≡ true
  from_door p k s c lp ls lk q same = absurd (omega arith)
  from_door p k s c lp ls lk q (by {d = d} w r) =
      let v : whole g up (g.links + s) p ≡ Link d = subst (λ (i : ℕ). whole g up i p ≡ Link d) q w in
      reach p k d lp lk (link_is g up p (start g up c) d w).0 (opened s p ls lp d v) r

  pub marks_are : (k p : ℕ) → k < g.links → p < g.n → marked ms k p ≡ met g up k p
  marks_are k p lk lp = ⊎_elim
      (λ (e : marked ms k p ≡ true). e ∙ sym (only k p lk lp e))
      (λ e. e ∙ sym (⊎_elim
      (λ (m : met g up k p ≡ true). let c = met_comes g up p k m in absurd (both_ways (marked ms k p) e (from_door p k c.0 (g.links + c.0) lp c.1 lk refl c.2)))
      (λ m. m) (cases_Bool (met g up k p))))
      (cases_Bool (marked ms k p))
