-- Raising ranks where they do not rise: it ends, and what is left are the least ranks. Assumes nothing.
use Rattle.std.proofs.Common.{◌≡◌, ℕ, zero, suc, ◌+◌, ◌*◌, ◌<◌, ◌≤◌, Bool, true, false, ◌||◌, cond, leb, ◌⊎◌, List, [], ◌∷◌, length, get_or, set, sum, sym, refl, ap, ◌∙◌, subst, inl, inr, ⊎_elim, arith}
use Rattle.std.proofs.ByRecursion.{All-from_get_or, sum_by_le}
use Rattle.std.proofs.lemmas.List.{get_or-set_same, get_or-set_other}
use Rattle.std.proofs.lemmas.List.Sums.{sum_by-set}
use Rattle.std.proofs.lemmas.Bool.{cases_eq, cases_Bool, cond-true, cond-false, leb-true, leb-false, or_parts, or_cases, both_ways}
use Rattle.net.specs.declared.Entry.{Entry}
use Rattle.ring.specs.Ring.{Along, Differ, Ring, NoRing}
use Rattle.ring.specs.Table.{Hands}
use Rattle.ring.specs.Ranks.{Backed, Lifted, LeastRanks, MakesGood}
use Rattle.ring.proofs.Along.{along_below, simple}
use Rattle.ring.proofs.Count.{few}
use Rattle.ring.proofs.Outside.{in_columns}

module _ (H : ℕ → ℕ → Type 0) where
  -- a way that leads to x can be made as long as its rank says
  climb : (r : List ℕ) → Backed H r → (k x : ℕ) (es : List ℕ) (w : ℕ) → k ≤ get_or r x 0 → Along H x es w → (z : ℕ) × (fs : List ℕ) × Along H z fs w × (length fs ≡ k + length es)
  climb r b zero x es w h a = (x, es, a, omega arith)
  climb r b (suc k) x es w h a = go (b x) (λ y l g. climb r b k y (x ∷ es) w l (g, a))
    where
      go : (get_or r x 0 ≡ 0) ⊎ ((y : ℕ) × H y x × (get_or r x 0 ≤ get_or r y 0 + 1)) →
          ((y : ℕ) → k ≤ get_or r y 0 → H y x → (z : ℕ) × (fs : List ℕ) × Along H z fs w × (length fs ≡ k + length (x ∷ es))) →
          (z : ℕ) × (fs : List ℕ) × Along H z fs w × (length fs ≡ suc k + length es)
      go (inl q) f = absurd (omega arith)
      go (inr y) f =
          let l = y.2 in
          let c = f y.0 (omega arith) y.1 in
          let s = c.3 in
          (c.0, c.1, c.2, omega arith)

  -- so without a ring ranks stay below the number of channels
  pub bounded : (n : ℕ) (r : List ℕ) → ((x y : ℕ) → H x y → x < n) → NoRing H → Backed H r → (c e : ℕ) → H c e → get_or r c 0 < n
  bounded n r inside free b c e h =
      let w = climb r b (get_or r c 0) c [] e (omega arith) h in
      let s = w.3 in
      ⊎_elim
      (λ (d : Differ (w.0 ∷ w.1)). let l : length (w.0 ∷ w.1) ≤ n = few n (w.0 ∷ w.1) d (along_below H n inside w.0 w.1 e w.2) in omega arith)
      (λ (d : (cs : List ℕ) × Ring H cs). absurd (free d.0 d.1))
      (simple H w.0 w.1 e w.2)

  pub top : (n : ℕ) (r : List ℕ) → ((x y : ℕ) → H x y → x < n) → NoRing H → Backed H r → (x : ℕ) → get_or r x 0 ≤ n
  top n r inside free b x = ⊎_elim
      (λ (q : get_or r x 0 ≡ 0). omega arith)
      (λ (y : (y : ℕ) × H y x × (get_or r x 0 ≤ get_or r y 0 + 1)). let l = y.2 in let g = bounded n r inside free b y.0 x y.1 in omega arith)
      (b x)

  -- and their sum stays bounded
  pub sum_top : (n : ℕ) (r : List ℕ) → ((x y : ℕ) → H x y → x < n) → NoRing H → Backed H r → sum r ≤ length r * n
  sum_top n r inside free b = sum_by_le (λ (x : ℕ). x) n r (All-from_get_or (λ (x : ℕ). x ≤ n) r 0 (λ i h. top n r inside free b i))

  -- nothing was looked at yet
  pub lifted_none : (S : ℕ → ℕ → Type 0) (r : List ℕ) → Backed H r → ((c e : ℕ) → S c e → ⊥) → Lifted H S r r false
  lifted_none S r b z = record { backed = b; still = λ q. (refl, λ c e s. absurd (z c e s)); more = λ q. absurd (both_ways false refl q) }

  -- some pairs and then others: one was raised if one of either was
  pub lifted_then : (S S' U : ℕ → ℕ → Type 0) (old mid new : List ℕ) (a b t : Bool) → Lifted H S old mid a → Lifted H S' mid new b → ((c e : ℕ) → U c e → S c e ⊎ S' c e) → t ≡ (a || b) → Lifted H U old new t
  lifted_then S S' U old mid new a b t l k u is =
      record {
        backed = k.backed;
        still = λ q.
            let z = or_parts a b (sym is ∙ q) in
            let f = l.still z.0 in
            let g = k.still z.1 in (
              g.0 ∙ f.0,
              λ c e v. ⊎_elim
                  (λ (s : S c e). subst (λ (r : List ℕ). get_or r c 0 < get_or r e 0) (sym g.0) (f.1 c e s))
                  (λ (s : S' c e). g.1 c e s)
                  (u c e v),
            );
        more = λ q. ⊎_elim first second (or_cases a b (sym is ∙ q));
      }
    where
      first : a ≡ true → sum old < sum new
      first q =
          let f = l.more q in
          ⊎_elim (λ (p : b ≡ true). let g = k.more p in omega arith) (λ (p : b ≡ false). let g : sum new ≡ sum mid = ap sum (k.still p).0 in omega arith) (cases_Bool b)

      second : b ≡ true → sum old < sum new
      second q =
          let g = k.more q in
          ⊎_elim (λ (p : a ≡ true). let f = l.more p in omega arith) (λ (p : a ≡ false). let f : sum mid ≡ sum old = ap sum (l.still p).0 in omega arith) (cases_Bool a)

  -- one pair: raised if it did not rise
  pub lifted_one : (S : ℕ → ℕ → Type 0) (old new : List ℕ) (c e : ℕ) (t : Bool) → Backed H old → H c e → c < length old → e < length old → ((d f : ℕ) → S d f → (d ≡ c) × (f ≡ e)) → t ≡ leb (get_or old e 0) (get_or old c 0) → new ≡ cond t (set old e (get_or old c 0 + 1)) old → Lifted H S old new t
  lifted_one S old new c e t b h lc le only told q = ⊎_elim raised left (cases_Bool t)
    where
      left : t ≡ false → Lifted H S old new t
      left f =
          let g : get_or old c 0 < get_or old e 0 = leb-false (get_or old e 0) (get_or old c 0) (sym told ∙ f) in
          let same : new ≡ old = q ∙ cond-false t (set old e (get_or old c 0 + 1)) old f in
          subst (λ (r : List ℕ). Lifted H S old r t) (sym same) record {
            backed = b;
            still = λ z. (refl, λ d u s. let o = only d u s in subst (λ (i : ℕ). get_or old i 0 < get_or old u 0) (sym o.0) (subst (λ (i : ℕ). get_or old c 0 < get_or old i 0) (sym o.1) g));
            more = λ z. absurd (both_ways t f z);
          }

      -- no rank falls
      keeps : get_or old e 0 ≤ get_or old c 0 → (x : ℕ) → get_or old x 0 ≤ get_or (set old e (get_or old c 0 + 1)) x 0
      keeps g x = ⊎_elim
          (λ (p : x ≡ e).
          let s : get_or (set old e (get_or old c 0 + 1)) x 0 ≡ get_or old c 0 + 1 = ap (λ (i : ℕ). get_or (set old e (get_or old c 0 + 1)) i 0) p ∙ get_or-set_same old e (get_or old c 0 + 1) 0 le in
          let u : get_or old x 0 ≡ get_or old e 0 = ap (λ (i : ℕ). get_or old i 0) p in
          omega arith)
          (λ (p : x ≡ e → ⊥). let s = get_or-set_other old e x (get_or old c 0 + 1) 0 p in omega arith)
          (cases_eq x e)

      backed : get_or old e 0 ≤ get_or old c 0 → Backed H (set old e (get_or old c 0 + 1))
      backed g x = ⊎_elim
          (λ (p : x ≡ e).
          let s : get_or (set old e (get_or old c 0 + 1)) x 0 ≡ get_or old c 0 + 1 = ap (λ (i : ℕ). get_or (set old e (get_or old c 0 + 1)) i 0) p ∙ get_or-set_same old e (get_or old c 0 + 1) 0 le in
          let k = keeps g c in
          inr (c, subst (λ (i : ℕ). H c i) (sym p) h, omega arith))
          (λ (p : x ≡ e → ⊥).
          let s = get_or-set_other old e x (get_or old c 0 + 1) 0 p in
          ⊎_elim (λ (z : get_or old x 0 ≡ 0). inl (s ∙ z))
          (λ (y : (y : ℕ) × H y x × (get_or old x 0 ≤ get_or old y 0 + 1)). let l = y.2 in let k = keeps g y.0 in inr (y.0, y.1, omega arith))
          (b x))
          (cases_eq x e)

      raised : t ≡ true → Lifted H S old new t
      raised f =
          let g : get_or old e 0 ≤ get_or old c 0 = leb-true (get_or old e 0) (get_or old c 0) (sym told ∙ f) in
          let is : new ≡ set old e (get_or old c 0 + 1) = q ∙ cond-true t (set old e (get_or old c 0 + 1)) old f in
          subst (λ (r : List ℕ). Lifted H S old r t) (sym is) record {
            backed = backed g;
            still = λ z. absurd (both_ways t z f);
            more = λ z. let s = sum_by-set (λ (x : ℕ). x) old e (get_or old c 0 + 1) 0 le in omega arith;
          }

  pub least_ranks : (r : List ℕ) → Backed H r → ((c e : ℕ) → H c e → get_or r c 0 < get_or r e 0) → LeastRanks H (λ c. get_or r c 0)
  least_ranks r b up =
      record {
        rises = up;
        none = λ e z. ⊎_elim (λ (q : get_or r e 0 ≡ 0). q) (λ (y : (y : ℕ) × H y e × (get_or r e 0 ≤ get_or r y 0 + 1)). absurd (z y.0 y.1)) (b e);
        largest = λ c e h. ⊎_elim
            (λ (q : get_or r e 0 ≡ 0). let u = up c e h in absurd (omega arith))
            (λ (y : (y : ℕ) × H y e × (get_or r e 0 ≤ get_or r y 0 + 1)).
            let u = up y.0 e y.1 in
            let l = y.2 in
            (y.0, y.1, omega arith, (λ f g. let v = up f e g in omega arith)))
            (b e);
        least = λ q rise e. least q rise (get_or r e 0) e refl;
      }
    where
      least : (q : ℕ → ℕ) → ((c e : ℕ) → H c e → q c < q e) → (k e : ℕ) → get_or r e 0 ≡ k → get_or r e 0 ≤ q e
      least q rise zero e p = omega arith
      least q rise (suc k) e p = go (b e) (λ y z. least q rise k y z)
        where
          go : (get_or r e 0 ≡ 0) ⊎ ((y : ℕ) × H y e × (get_or r e 0 ≤ get_or r y 0 + 1)) → ((y : ℕ) → get_or r y 0 ≡ k → get_or r y 0 ≤ q y) → get_or r e 0 ≤ q e
          go (inl z) f = omega arith
          go (inr y) f =
              let u = up y.0 e y.1 in
              let l = y.2 in
              let g = f y.0 (omega arith) in
              let v = rise y.0 e y.1 in
              omega arith

-- the net with those ranks is good
pub makes_good : (es : List Entry) (n m : ℕ) (r : ℕ → ℕ) → LeastRanks (Hands es m) r → MakesGood es n m r
makes_good es n m r k ends l d s z to o =
    record { some = o; rises = λ c p e q. let h : Hands es m c e = (p, in_columns es m c p e q, q) in (to c e h, k.rises c e h) }
