-- Walking down the distances gives the way back that is first in order. Assumes nothing.
use Rattle.std.proofs.Common.{◌≡◌, ℕ, ◌+◌, ◌-◌, ◌<◌, ◌≤◌, List, [], ◌∷◌, ◌++◌, Option, Some, None, MatchOption, length, get_or, sym, ap, ◌∙◌, subst, inl, inr, ⊎_elim, append_assoc, arith}
use Rattle.std.specs.List.{AllByRecursion}
use Rattle.std.proofs.ByRecursion.{All-weaker}
use Rattle.std.proofs.lemmas.Bool.{cases_lt}
use Rattle.ring.specs.Ring.{Along, NotAfter}
use Rattle.ring.specs.Layers.{Back, Near}
use Rattle.ring.specs.Down.{GoesOn, NextOn, Lowest, LowestRing}
use Rattle.ring.proofs.Marks.{more_back, back_first, back_last, back_at}

module _ (H : ℕ → ℕ → Type 0) (c k : ℕ) (A : List ℕ) (n : Near H c k A) where
  -- of a channel with number j + 1, each channel on a way back over j more has number j
  pub one_nearer : (x e j : ℕ) → c ≤ x → H x e → get_or A x 0 ≡ j + 1 → j < k → Back H c e j → get_or A e 0 + 1 ≡ get_or A x 0
  one_nearer x e j f h q l b =
      let o = n.least e j b (omega arith) in
      let s = n.least x (get_or A e 0 + 1) (more_back H c x e (get_or A e 0) f h (n.some e o.0)) (omega arith) in
      omega arith

  -- there is a channel that is one nearer
  pub some_nearer : (x : ℕ) → 1 < get_or A x 0 → get_or A x 0 ≤ k → (e : ℕ) × H x e × (c ≤ e) × (get_or A e 0 + 1 ≡ get_or A x 0)
  some_nearer x h l =
      let j = get_or A x 0 - 1 in
      let q : get_or A x 0 ≡ (get_or A x 0 - 1) + 1 = omega arith in
      let b = n.some x (omega arith) in
      let f = back_first H c x (get_or A x 0 - 1) (back_at H c x (get_or A x 0) ((get_or A x 0 - 1) + 1) q b) (omega arith) in
      (f.0, f.1, f.2.from, one_nearer x f.0 (get_or A x 0 - 1) b.from f.1 q (omega arith) f.2)

  pub lowest_last : (x : ℕ) → get_or A x 0 ≡ 1 → Lowest H c A x []
  lowest_last x q =
      let b = n.some x (omega arith) in
      record {
        along = back_last H c x (back_at H c x (get_or A x 0) 1 q b);
        size = omega arith;
        from = b.from;
        high = tt;
        falls = tt;
        differ = (tt, tt);
        first = λ ds a l s. tt;
      }

  not_in : (x : ℕ) (es : List ℕ) → AllByRecursion (λ e. get_or A e 0 < get_or A x 0) es → AllByRecursion (λ e. x ≡ e → ⊥) es
  not_in x es l =
      All-weaker (λ (e : ℕ). get_or A e 0 < get_or A x 0) (λ (e : ℕ). x ≡ e → ⊥)
      (λ e h q. let p : get_or A x 0 ≡ get_or A e 0 = ap (λ (i : ℕ). get_or A i 0) q in omega arith) es l

  pub lowest_more : (x e : ℕ) (es : List ℕ) → get_or A x 0 ≤ k → NextOn H c A x e → Lowest H c A e es → Lowest H c A x (e ∷ es)
  lowest_more x e es lk o l =
      let r = o.goes.nearer in
      let s = l.size in
      let b = n.some x (omega arith) in
      let falls : AllByRecursion (λ d. get_or A d 0 < get_or A x 0) (e ∷ es) = (omega arith, All-weaker (λ (d : ℕ). get_or A d 0 < get_or A e 0) (λ (d : ℕ). get_or A d 0 < get_or A x 0) (λ d h. omega arith) es l.falls) in
      record {
        along = (o.goes.hands, l.along);
        size = omega arith;
        from = b.from;
        high = (o.from, l.high);
        falls = falls;
        differ = (not_in x (e ∷ es) falls, l.differ);
        first = λ ds a h z. first b.from ds a h z;
      }
    where
      same : (d : ℕ) (ds : List ℕ) → d ≡ e → Along H d ds c → AllByRecursion (λ f. c ≤ f) ds → length ds ≡ length es → NotAfter es ds
      same d ds q a h z = l.first ds (subst (λ (i : ℕ). Along H i ds c) q a) h z

      first : c ≤ x → (ds : List ℕ) → Along H x ds c → AllByRecursion (λ f. c ≤ f) ds → length ds ≡ length (e ∷ es) → NotAfter (e ∷ es) ds
      first f [] a h z = absurd (omega arith)
      first f (d ∷ ds) a h z =
          let r = o.goes.nearer in
          let s = l.size in
          let t : length ds ≡ length es = omega arith in
          let w : Back H c d (get_or A e 0) = record { over = ds; along = a.1; size = omega arith; from = h.0; high = h.1 } in
          let g : e ≤ d = o.lowest d a.0 h.0 (one_nearer x d (get_or A e 0) f a.0 (sym r) (omega arith) w) in
          ⊎_elim (λ (q : e < d). inl q) (λ (q : d ≤ e). let p : e ≡ d = omega arith in inr (p, same d ds (sym p) a.1 h.1 t)) (cases_lt e d)

  -- One channel more is known of the ring: what goes on from e goes on from x by way of e.
  pub walk_more : (x e : ℕ) (us ws : List ℕ) → ws ≡ us ++ (x ∷ []) → get_or A x 0 ≤ k → NextOn H c A x e →
      ((es : List ℕ) → Lowest H c A x es → LowestRing H c A (us ++ (x ∷ es))) →
      (es : List ℕ) → Lowest H c A e es → LowestRing H c A (ws ++ (e ∷ es))
  walk_more x e us ws q lk o w es l =
      subst (λ (xs : List ℕ). LowestRing H c A xs) (sym (ap (λ (ys : List ℕ). ys ++ (e ∷ es)) q ∙ append_assoc us (x ∷ []) (e ∷ es))) (w (e ∷ es) (lowest_more x e es lk o l))

  -- and with its last channel the ring is whole
  pub walk_last : (x : ℕ) (us ws : List ℕ) → ws ≡ us ++ (x ∷ []) → get_or A x 0 ≡ 1 →
      ((es : List ℕ) → Lowest H c A x es → LowestRing H c A (us ++ (x ∷ es))) → LowestRing H c A ws
  walk_last x us ws q z w = subst (λ (xs : List ℕ). LowestRing H c A xs) (sym q) (w [] (lowest_last x z))

  -- what is nearer has a number
  goes_on : (x e : ℕ) → 1 < get_or A x 0 → H x e → get_or A e 0 + 1 ≡ get_or A x 0 → GoesOn H A x e
  goes_on x e g w q = record { hands = w; some = omega arith; nearer = q }

  -- a search over all channels finds the next, or there is none since this one is the last
  pub next_found : (n : ℕ) → ((x y : ℕ) → H x y → y < n) → (x : ℕ) → 0 < get_or A x 0 → get_or A x 0 ≤ k → (r : Option ℕ) →
      MatchOption r ((e : ℕ) → c ≤ e → e < n → GoesOn H A x e → ⊥) (λ e. (c ≤ e) × (e < n) × GoesOn H A x e × ((d : ℕ) → c ≤ d → d < e → GoesOn H A x d → ⊥)) →
      MatchOption r (get_or A x 0 ≡ 1) (λ e. NextOn H c A x e)
  next_found n inside x h l None m = ⊎_elim
      (λ (g : 1 < get_or A x 0). let s = some_nearer x g l in absurd (m s.0 s.2 (inside x s.0 s.1) (goes_on x s.0 g s.1 s.3)))
      (λ (g : get_or A x 0 ≤ 1). omega arith)
      (cases_lt 1 (get_or A x 0))
  next_found n inside x h l (Some e) m =
      let o = m.2 in
      record {
        goes = o;
        from = m.0;
        lowest = λ d w f q. ⊎_elim
            (λ (g : d < e). let s = o.some in let z = o.nearer in absurd (m.3 d f g (goes_on x d (omega arith) w q)))
            (λ (g : e ≤ d). g)
            (cases_lt d e);
      }
