-- Layer by layer the numbers are the distances back: one mark, the marks at one channel, a whole layer. Assumes nothing.
use Rattle.std.proofs.Common.{◌≡◌, ℕ, zero, suc, ◌+◌, ◌<◌, ◌≤◌, Bool, true, false, cond, ◌&&◌, eqb, ◌⊎◌, List, [], ◌∷◌, length, get_or, set, sym, ap, ◌∙◌, subst, inl, inr, ⊎_elim, arith, length-set}
use Rattle.std.specs.List.{AllByRecursion}
use Rattle.std.proofs.lemmas.List.{get_or-set_same, get_or-set_other, set-get_or}
use Rattle.std.proofs.lemmas.Bool.{cases_eq, cases_lt, cases_Bool, and_parts, and_cases, eqb-true, eqb-false, cond-true, cond-false, both_ways}
use Rattle.ring.specs.Ring.{Along}
use Rattle.ring.specs.Layers.{Back, Near, Spread, Source, Layer}

-- what stands at x after a write at y
at_set : (A : List ℕ) (y v x : ℕ) → y < length A → ((x ≡ y) × (get_or (set A y v) x 0 ≡ v)) ⊎ ((x ≡ y → ⊥) × (get_or (set A y v) x 0 ≡ get_or A x 0))
at_set A y v x h = ⊎_elim
    (λ (q : x ≡ y). inl (q, ap (λ (i : ℕ). get_or (set A y v) i 0) q ∙ get_or-set_same A y v 0 h))
    (λ (d : x ≡ y → ⊥). inr (d, get_or-set_other A y x v 0 d))
    (cases_eq x y)

module _ (H : ℕ → ℕ → Type 0) (c : ℕ) where
  -- one channel more in front
  pub more_back : (x e k : ℕ) → c ≤ x → H x e → Back H c e k → Back H c x (k + 1)
  more_back x e k l h b =
      let s = b.size in
      record { over = e ∷ b.over; along = (h, b.along); size = omega arith; from = l; high = (b.from, b.high) }

  -- the first step of a way back
  pub back_first : (x k : ℕ) → Back H c x (k + 1) → 0 < k → (e : ℕ) × H x e × Back H c e k
  back_first x k b h = go b.over b.along b.size b.high
    where
      go : (es : List ℕ) → Along H x es c → length es + 1 ≡ k + 1 → AllByRecursion (λ e. c ≤ e) es → (e : ℕ) × H x e × Back H c e k
      go [] a s l = absurd (omega arith)
      go (e ∷ es) a s l = (e, a.0, record { over = es; along = a.1; size = omega arith; from = l.0; high = l.1 })

  pub back_last : (x : ℕ) → Back H c x 1 → H x c
  back_last x b = go b.over b.along b.size
    where
      go : (es : List ℕ) → Along H x es c → length es + 1 ≡ 1 → H x c
      go [] a s = a
      go (e ∷ es) a s = absurd (omega arith)

  pub back_at : (x j k : ℕ) → j ≡ k → Back H c x j → Back H c x k
  back_at x j k q b = subst (λ (i : ℕ). Back H c x i) q b

  pub mark : (k : ℕ) (A : List ℕ) (y : ℕ) → y < length A → get_or A y 0 ≡ 0 → Back H c y (k + 1) → Near H c k A → Near H c k (set A y (k + 1))
  mark k A y h q b n =
      record {
        some = λ x g. ⊎_elim
            (λ (r : (x ≡ y) × (get_or (set A y (k + 1)) x 0 ≡ k + 1)). subst (λ (i : ℕ). Back H c x i) (sym r.1) (subst (λ (i : ℕ). Back H c i (k + 1)) (sym r.0) b))
            (λ (r : (x ≡ y → ⊥) × (get_or (set A y (k + 1)) x 0 ≡ get_or A x 0)).
            let s = r.1 in
            let o : 0 < get_or A x 0 = omega arith in
            back_at x (get_or A x 0) _ (sym s) (n.some x o))
            (at_set A y (k + 1) x h);
        most = λ x. ⊎_elim
            (λ (r : (x ≡ y) × (get_or (set A y (k + 1)) x 0 ≡ k + 1)). let s = r.1 in omega arith)
            (λ (r : (x ≡ y → ⊥) × (get_or (set A y (k + 1)) x 0 ≡ get_or A x 0)). let s = r.1 in let m = n.most x in omega arith)
            (at_set A y (k + 1) x h);
        least = λ x j w l. ⊎_elim
            (λ (r : (x ≡ y) × (get_or (set A y (k + 1)) x 0 ≡ k + 1)).
            let o = n.least x j w l in
            let i : get_or A x 0 ≡ get_or A y 0 = ap (λ (i : ℕ). get_or A i 0) r.0 in
            absurd (omega arith))
            (λ (r : (x ≡ y → ⊥) × (get_or (set A y (k + 1)) x 0 ≡ get_or A x 0)).
            let s = r.1 in
            let o = n.least x j w l in
            (omega arith, omega arith))
            (at_set A y (k + 1) x h);
      }

  -- y is looked at; b says whether it hands blocks to x
  pub spread_more : (k x y : ℕ) (old A : List ℕ) (b : Bool) (v : ℕ) → Source H c x (k + 1) → c ≤ y → y < length A → (b ≡ true → H y x) → (H y x → b ≡ true) → v ≡ cond (b && eqb (get_or A y 0) 0) (k + 1) (get_or A y 0) → Spread H c k x y old A → Spread H c k x (y + 1) old (set A y v)
  spread_more k x y old A b v src cy h so rev q s = ⊎_elim marked left (cases_Bool (b && eqb (get_or A y 0) 0))
    where
      marked : (b && eqb (get_or A y 0) 0) ≡ true → Spread H c k x (y + 1) old (set A y v)
      marked t =
          let p = and_parts b (eqb (get_or A y 0) 0) t in
          let w : v ≡ k + 1 = q ∙ cond-true (b && eqb (get_or A y 0) 0) (k + 1) (get_or A y 0) t in
          let o : get_or A y 0 ≡ 0 = eqb-true (get_or A y 0) 0 p.1 in
          let z = s.size in
          let r : Spread H c k x (y + 1) old (set A y (k + 1)) = record {
            size = length-set A y (k + 1) ∙ s.size;
            near = mark k A y h o (src y cy (so p.0)) s.near;
            only = λ u. ⊎_elim
                (λ (r : (u ≡ y) × (get_or (set A y (k + 1)) u 0 ≡ k + 1)).
                let i : get_or A u 0 ≡ get_or A y 0 = ap (λ (i : ℕ). get_or A i 0) r.0 in
                let was : get_or old u 0 ≡ 0 = ⊎_elim (λ (e : get_or A u 0 ≡ get_or old u 0). omega arith) (λ e. e.0) (s.only u) in
                inr (was, r.1))
                (λ (r : (u ≡ y → ⊥) × (get_or (set A y (k + 1)) u 0 ≡ get_or A u 0)).
                ⊎_elim (λ (e : get_or A u 0 ≡ get_or old u 0). inl (r.1 ∙ e)) (λ (e : (get_or old u 0 ≡ 0) × (get_or A u 0 ≡ k + 1)). inr (e.0, r.1 ∙ e.1)) (s.only u))
                (at_set A y (k + 1) u h);
            done = λ u l m w. ⊎_elim
                (λ (r : (u ≡ y) × (get_or (set A y (k + 1)) u 0 ≡ k + 1)). let e = r.1 in omega arith)
                (λ (r : (u ≡ y → ⊥) × (get_or (set A y (k + 1)) u 0 ≡ get_or A u 0)).
                let e = r.1 in
                let ne : u ≡ y → ⊥ = r.0 in
                let lt : u < y = ⊎_elim (λ (g : u < y). g) (λ (g : y ≤ u). absurd (ne (omega arith))) (cases_lt u y) in
                let d = s.done u l lt w in
                omega arith)
                (at_set A y (k + 1) u h);
          } in
          subst (λ (i : ℕ). Spread H c k x (y + 1) old (set A y i)) (sym w) r

      left : (b && eqb (get_or A y 0) 0) ≡ false → Spread H c k x (y + 1) old (set A y v)
      left f =
          let w : v ≡ get_or A y 0 = q ∙ cond-false (b && eqb (get_or A y 0) 0) (k + 1) (get_or A y 0) f in
          let here : H y x → 0 < get_or A y 0 = λ g.
          ⊎_elim (λ e. absurd (both_ways b e (rev g)))
          (λ e. let ne : get_or A y 0 ≡ 0 → ⊥ = eqb-false (get_or A y 0) 0 e in ⊎_elim (λ (g : 0 < get_or A y 0). g) (λ (g : get_or A y 0 ≤ 0). absurd (ne (omega arith))) (cases_lt 0 (get_or A y 0)))
          (and_cases b (eqb (get_or A y 0) 0) f) in
          let r : Spread H c k x (y + 1) old A = record {
            size = s.size;
            near = s.near;
            only = s.only;
            done = λ u l m g. ⊎_elim
                (λ (e : u ≡ y). subst (λ (i : ℕ). 0 < get_or A i 0) (sym e) (here (subst (λ (i : ℕ). H i x) e g)))
                (λ (e : u ≡ y → ⊥).
                let lt : u < y = ⊎_elim (λ (g : u < y). g) (λ (g : y ≤ u). absurd (e (omega arith))) (cases_lt u y) in
                s.done u l lt g)
                (cases_eq u y);
          } in
          let same : set A y v ≡ A = ap (λ (i : ℕ). set A y i) w ∙ set-get_or A y 0 in
          subst (λ (B : List ℕ). Spread H c k x (y + 1) old B) (sym same) r

  -- a channel of another number is passed over
  pub layer_pass : (k y : ℕ) (A : List ℕ) → (get_or A y 0 ≡ k → ⊥) → Layer H c k y A → Layer H c k (y + 1) A
  layer_pass k y A d l =
      record {
        near = l.near;
        done = λ x z h g q m w. ⊎_elim
            (λ (e : x ≡ y). absurd (d (ap (λ (i : ℕ). get_or A i 0) (sym e) ∙ q)))
            (λ (e : x ≡ y → ⊥). let lt : x < y = ⊎_elim (λ (g : x < y). g) (λ (g : y ≤ x). absurd (e (omega arith))) (cases_lt x y) in l.done x z lt g q m w)
            (cases_eq x y);
      }

  -- where y has number k, those that hand blocks to it have a way back over k + 1
  pub layer_source : (k y : ℕ) (A : List ℕ) → 0 < k → get_or A y 0 ≡ k → Near H c k A → Source H c y (k + 1)
  layer_source k y A p q n = λ z l h. more_back z y k l h (back_at y (get_or A y 0) k q (n.some y (omega arith)))

  -- and got a number
  pub layer_spread : (k y n : ℕ) (old A : List ℕ) → 0 < k → ((z x : ℕ) → H z x → z < n) → Layer H c k y old → Spread H c k y n old A → Layer H c k (y + 1) A
  layer_spread k y n old A p b l s =
      record {
        near = s.near;
        done = λ x z h g q m w.
            let was : get_or old x 0 ≡ k = ⊎_elim (λ (e : get_or A x 0 ≡ get_or old x 0). sym e ∙ q) (λ (e : (get_or old x 0 ≡ 0) × (get_or A x 0 ≡ k + 1)). let f = e.1 in absurd (omega arith)) (s.only x) in
            ⊎_elim
            (λ (e : x ≡ y). s.done z m (b z x w) (subst (λ (i : ℕ). H z i) e w))
            (λ (e : x ≡ y → ⊥).
            let lt : x < y = ⊎_elim (λ (g : x < y). g) (λ (g : y ≤ x). absurd (e (omega arith))) (cases_lt x y) in
            let o = l.done x z lt g was m w in
            ⊎_elim (λ (e : get_or A z 0 ≡ get_or old z 0). omega arith) (λ (e : (get_or old z 0 ≡ 0) × (get_or A z 0 ≡ k + 1)). let f = e.1 in omega arith) (s.only z))
            (cases_eq x y);
      }

  -- a whole layer: the numbers are right up to one more
  pub layer_all : (k n : ℕ) (A : List ℕ) → 0 < k → ((z x : ℕ) → H z x → x < n) → Layer H c k n A → Near H c (k + 1) A
  layer_all k n A p b l =
      record {
        some = l.near.some;
        most = λ x. let m = l.near.most x in omega arith;
        least = λ x j w h. ⊎_elim (λ (g : j < k + 1). l.near.least x j w (omega arith)) (λ (g : k + 1 ≤ j). last x j w (omega arith)) (cases_lt j (k + 1));
      }
    where
      near_by : (x e : ℕ) → c ≤ x → H x e → Back H c e k → (0 < get_or A x 0) × (get_or A x 0 ≤ k + 1)
      near_by x e f h w =
          let o = l.near.least e k w (omega arith) in
          let m = l.near.most x in
          ⊎_elim
          (λ (q : get_or A e 0 ≡ k). (l.done e x (b x e h) w.from q f h, m))
          (λ (q : get_or A e 0 ≡ k → ⊥).
          let lt : get_or A e 0 < k = ⊎_elim (λ (g : get_or A e 0 < k). g) (λ (g : k ≤ get_or A e 0). absurd (q (omega arith))) (cases_lt (get_or A e 0) k) in
          let s = l.near.least x (get_or A e 0 + 1) (more_back x e (get_or A e 0) f h (l.near.some e o.0)) (omega arith) in
          (s.0, m))
          (cases_eq (get_or A e 0) k)

      last : (x j : ℕ) → Back H c x j → j ≡ k + 1 → (0 < get_or A x 0) × (get_or A x 0 ≤ j)
      last x j w q =
          let f = back_first x k (back_at x j (k + 1) q w) p in
          let r = near_by x f.0 w.from f.1 f.2 in
          (r.0, (let m = r.1 in omega arith))

  -- where no channel has number k, none has a higher one, and what is known up to k + 1 is known of every layer
  module _ (k : ℕ) (A : List ℕ) (p : 0 < k) (n : Near H c (k + 1) A) (none : (x : ℕ) → get_or A x 0 ≡ k → ⊥) where
    -- the next on the way back has a lower number than k, and so the one before has at most k
    beside : (x e : ℕ) → c ≤ x → H x e → 0 < get_or A e 0 → get_or A e 0 ≤ k → get_or A x 0 ≤ k
    beside x e f h s l =
        let lt : get_or A e 0 < k = ⊎_elim (λ (g : get_or A e 0 < k). g) (λ (g : k ≤ get_or A e 0). absurd (none e (omega arith))) (cases_lt (get_or A e 0) k) in
        let o = n.least x (get_or A e 0 + 1) (more_back x e (get_or A e 0) f h (n.some e s)) (omega arith) in
        omega arith

    not_next : (x : ℕ) → get_or A x 0 ≤ k + 1 → get_or A x 0 ≤ k
    not_next x l = ⊎_elim (λ (g : get_or A x 0 < k + 1). omega arith)
        (λ (g : k + 1 ≤ get_or A x 0).
        let q : get_or A x 0 ≡ k + 1 = omega arith in
        let b = back_at x (get_or A x 0) (k + 1) q (n.some x (omega arith)) in
        let f = back_first x k b p in
        let o = n.least f.0 k f.2 (omega arith) in
        beside x f.0 b.from f.1 o.0 o.1)
        (cases_lt (get_or A x 0) (k + 1))

    low : (x : ℕ) → get_or A x 0 ≤ k
    low x = ⊎_elim (λ (g : get_or A x 0 < k + 2). not_next x (omega arith))
        (λ (g : k + 2 ≤ get_or A x 0).
        let m = n.most x in
        let q : get_or A x 0 ≡ (k + 1) + 1 = omega arith in
        let b = back_at x (get_or A x 0) ((k + 1) + 1) q (n.some x (omega arith)) in
        let f = back_first x (k + 1) b (omega arith) in
        let o = n.least f.0 (k + 1) f.2 (omega arith) in
        beside x f.0 b.from f.1 o.0 (not_next f.0 o.1))
        (cases_lt (get_or A x 0) (k + 2))

    known : (j x : ℕ) → Back H c x j → (0 < get_or A x 0) × (get_or A x 0 ≤ j)
    known zero x b = let s = b.size in absurd (omega arith)
    known (suc i) x b = ⊎_elim (λ (g : suc i < k + 2). n.least x (suc i) b (omega arith)) (λ (g : k + 2 ≤ suc i). further (λ e w. known i e w) (omega arith) (back_first x i (back_at x (suc i) (i + 1) (omega arith) b) (omega arith))) (cases_lt (suc i) (k + 2))
      where
        further : ((e : ℕ) → Back H c e i → (0 < get_or A e 0) × (get_or A e 0 ≤ i)) → k + 1 ≤ i → (e : ℕ) × H x e × Back H c e i → (0 < get_or A x 0) × (get_or A x 0 ≤ suc i)
        further r g f =
            let o = r f.0 f.2 in
            let l = low f.0 in
            let s = n.least x (get_or A f.0 0 + 1) (more_back x f.0 (get_or A f.0 0) b.from f.1 (n.some f.0 o.0)) (omega arith) in
            (s.0, omega arith)

    pub no_more : (m : ℕ) → k + 1 ≤ m → Near H c m A
    no_more m g = record { some = n.some; most = λ x. let l = low x in omega arith; least = λ x j b h. known j x b }
