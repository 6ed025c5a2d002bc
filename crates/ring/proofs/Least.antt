-- The search over all lowest members finds the smallest ring, or that there is none. Assumes nothing.
use Rattle.std.proofs.Common.{◌≡◌, ℕ, ◌+◌, ◌<◌, ◌≤◌, ◌⊎◌, Option, Some, None, List, [], ◌∷◌, length, get_or, sym, refl, ap, ◌∙◌, subst, inl, inr, ⊎_elim, arith}
use Rattle.std.specs.List.{AllByRecursion}
use Rattle.std.proofs.lemmas.Bool.{cases_eq, cases_lt, cases_order}
use Rattle.ring.specs.declared.shortest.Best.{Best}
use Rattle.ring.specs.Ring.{Along, Ring, NoRing, FromLowest, NotAfter, Smallest}
use Rattle.ring.specs.Layers.{Back, Near}
use Rattle.ring.specs.Down.{Lowest, LowestRing}
use Rattle.ring.specs.Fewest.{Fewest, FewestOf, members_of}
use Rattle.ring.proofs.Along.{along_below}
use Rattle.ring.proofs.Count.{few}
use Rattle.ring.proofs.Turned.{turned}

module _ (H : ℕ → ℕ → Type 0) (n : ℕ) where
  -- the ring of lowest member y is shorter
  pub takes : (y low members : ℕ) (A : List ℕ) → Near H y members A → 0 < get_or A y 0 → get_or A y 0 < members → Fewest H n y low members → Fewest H n (y + 1) y (get_or A y 0)
  takes y low members A a p l f =
      let s = f.most in
      record {
        some = p;
        most = omega arith;
        least = λ m j h b. ⊎_elim
            (λ (q : m ≡ y). let w = subst (λ (i : ℕ). Back H i i j) q b in ⊎_elim (λ (g : j < members). let o = a.least y j w (omega arith) in omega arith) (λ (g : members ≤ j). omega arith) (cases_lt j members))
            (λ (q : m ≡ y → ⊥).
            let lt : m < y = ⊎_elim (λ (g : m < y). g) (λ (g : y ≤ m). absurd (q (omega arith))) (cases_lt m y) in
            let o = f.least m j lt b in
            omega arith)
            (cases_eq m y);
        found = λ h. record { within = omega arith; back = a.some y p; lower = λ m j g b. let o = f.least m j g b in omega arith };
      }

  -- it is not
  pub keeps : (y low members : ℕ) (A : List ℕ) → Near H y members A → (0 < get_or A y 0 → members ≤ get_or A y 0) → Fewest H n y low members → Fewest H n (y + 1) low members
  keeps y low members A a l f =
      record {
        some = f.some;
        most = f.most;
        least = λ m j h b. ⊎_elim
            (λ (q : m ≡ y).
            let w = subst (λ (i : ℕ). Back H i i j) q b in
            ⊎_elim (λ (g : j < members). let o = a.least y j w (omega arith) in let z = l o.0 in omega arith) (λ (g : members ≤ j). g) (cases_lt j members))
            (λ (q : m ≡ y → ⊥).
            let lt : m < y = ⊎_elim (λ (g : m < y). g) (λ (g : y ≤ m). absurd (q (omega arith))) (cases_lt m y) in
            f.least m j lt b)
            (cases_eq m y);
        found = λ h. let g = f.found h in record { within = (let w = g.within in omega arith); back = g.back; lower = g.lower };
      }

  -- the same of what was found, if something was
  found_so : (y : ℕ) (o : Option Best) → FewestOf H n y o → (low : ℕ) × Fewest H n y low (members_of n o)
  found_so y None f = (0, record { some = omega arith; most = omega arith; least = λ m j h b. let g = f m j h b in omega arith; found = λ h. absurd (omega arith) })
  found_so y (Some b) f = (b.low, f.1)

  pub nothing_yet : FewestOf H n 0 None
  nothing_yet m j h b = absurd (omega arith)

  pub takes_best : (y most : ℕ) (o : Option Best) (A : List ℕ) (b : Best) → most ≡ members_of n o → FewestOf H n y o → Near H y most A → 0 < get_or A y 0 → get_or A y 0 < most → b.low ≡ y → b.members ≡ get_or A y 0 → FewestOf H n (y + 1) (Some b)
  takes_best y most o A b q f a p l low members =
      let w = found_so y o f in
      let m = w.1.most in
      let g : Fewest H n y w.0 most = subst (λ (i : ℕ). Fewest H n y w.0 i) (sym q) w.1 in
      let t = takes y w.0 most A a p l g in
      (omega arith, subst (λ (i : ℕ). Fewest H n (y + 1) i b.members) (sym low) (subst (λ (i : ℕ). Fewest H n (y + 1) y i) (sym members) t))

  pub keeps_best : (y most : ℕ) (o : Option Best) (A : List ℕ) → most ≡ members_of n o → FewestOf H n y o → Near H y most A → (0 < get_or A y 0 → most ≤ get_or A y 0) → FewestOf H n (y + 1) o
  keeps_best y most None A q f a l =
      let w = found_so y None f in
      let t = keeps y w.0 (n + 1) A (subst (λ (i : ℕ). Near H y i A) q a) (λ p. let g = l p in omega arith) w.1 in
      λ m j h b. let g = t.least m j h b in omega arith
  keeps_best y most (Some b) A q f a l = (f.0, keeps y b.low b.members A (subst (λ (i : ℕ). Near H y i A) q a) (λ p. let g = l p in omega arith) f.1)

  -- its number is that of its members
  pub members_are : (low members : ℕ) (A : List ℕ) → Near H low members A → members ≤ n → Fewest H n n low members → get_or A low 0 ≡ members
  members_are low members A a h f =
      let g = f.found h in
      let w = g.within in
      let o = a.least low members g.back (omega arith) in
      let u = f.least low (get_or A low 0) w (a.some low o.0) in
      omega arith

  module _ (inside : (x y : ℕ) → H x y → x < n) where
    back_below : (m j : ℕ) → Back H m m j → m < n
    back_below m j b = (along_below H n inside m b.over m b.along).0

    least_of : (low members : ℕ) → Fewest H n n low members → (x : ℕ) (es : List ℕ) → Along H x es x → members ≤ length es + 1
    least_of low members f x es a =
        let t = turned H x es a in
        f.least t.0 (length es + 1) (back_below t.0 (length es + 1) t.1) t.1

    no_ring : (low members : ℕ) → n < members → Fewest H n n low members → NoRing H
    no_ring low members h f [] r = elim r [ ]
    no_ring low members h f (x ∷ es) r =
        let l : length (x ∷ es) ≤ n = few n (x ∷ es) r.1 (along_below H n inside x es x r.0) in
        let m = least_of low members f x es r.0 in
        omega arith

    pub none_found : FewestOf H n n None → NoRing H
    none_found f = let w = found_so n None f in no_ring w.0 (n + 1) (omega arith) w.1

    pub smallest_is : (low members : ℕ) (A : List ℕ) (cs : List ℕ) → members ≤ n → get_or A low 0 ≡ members → Fewest H n n low members → LowestRing H low A cs → Smallest H cs
    smallest_is low members A [] h q f r = elim r [ ]
    smallest_is low members A (x ∷ es) h q f r =
        let l = r.1 in
        let s : length es + 1 ≡ members = l.size ∙ (ap (λ (i : ℕ). get_or A i 0) r.0 ∙ q) in
        record {
          ring = (subst (λ (i : ℕ). Along H x es i) (sym r.0) l.along, l.differ);
          lowest = subst (λ (i : ℕ). AllByRecursion (λ (e : ℕ). i ≤ e) es) (sym r.0) l.high;
          fewest = fewest s;
          first = first s;
        }
      where
        fewest : length es + 1 ≡ members → (ds : List ℕ) → Ring H ds → length (x ∷ es) ≤ length ds
        fewest s [] d = elim d [ ]
        fewest s (y ∷ ys) d = let m = least_of low members f y ys d.0 in omega arith

        first : length es + 1 ≡ members → (ds : List ℕ) → Ring H ds → FromLowest ds → length ds ≡ length (x ∷ es) → NotAfter (x ∷ es) ds
        first s [] d w z = elim d [ ]
        first s (y ∷ ys) d w z =
            let l : Lowest H low A x es = r.1 in
            let e = r.0 in
            let b : Back H y y (length ys + 1) = record { over = ys; along = d.0; size = refl; from = omega arith; high = w } in
            let t : length ys ≡ length es = omega arith in
            let p : y ≡ low → (x < y) ⊎ ((x ≡ y) × NotAfter es ys) = λ u.
            let v : x ≡ y = omega arith in
            inr (v, l.first ys (subst (λ (i : ℕ). Along H i ys low) (sym v) (subst (λ (i : ℕ). Along H y ys i) u d.0)) (subst (λ (i : ℕ). AllByRecursion (λ (e : ℕ). i ≤ e) ys) u w) t) in
            let lower : y < low → (x < y) ⊎ ((x ≡ y) × NotAfter es ys) = λ g. let o = (f.found h).lower y (length ys + 1) g b in absurd (omega arith) in
            let higher : low < y → (x < y) ⊎ ((x ≡ y) × NotAfter es ys) = λ g. let v : x < y = omega arith in inl v in
            ⊎_elim p (λ k. ⊎_elim lower higher k) (cases_order y low)
