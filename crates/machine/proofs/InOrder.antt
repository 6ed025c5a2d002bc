-- In order: of the blocks of one door for one place, those that came are a first part of those let in. Assumes nothing.
use Rattle.std.proofs.Common.{◌≡◌, ℕ, zero, suc, ◌+◌, ◌<◌, ◌≤◌, Bool, true, false, ◌&&◌, eqb, List, [], ◌∷◌, ◌++◌, sym, refl, ap, ◌∙◌, subst, ⊎_elim, append_assoc, append-nil, arith}
use Rattle.std.specs.List.{AllByRecursion as All}
use Rattle.std.proofs.lemmas.Bool.{cases_eq, cases_Bool, and_parts, eqb-true, cond-true, cond-false}
use Rattle.net.specs.declared.Block.{Block}
use Rattle.net.specs.declared.Came.{Came}
use Rattle.net.specs.declared.Entry.{Entry}
use Rattle.net.specs.declared.Entry.TheVariants.{Here, Link}
use Rattle.net.specs.Net.{Net, Good}
use Rattle.machine.specs.Round.{State}
use Rattle.machine.specs.Promise.{InOrder, between, blocks}
use Rattle.machine.proofs.Steps.{Entered, Handed, Moved, Kept, always, apart}
use Rattle.machine.proofs.Conserved.{handed_blocks}
use Rattle.machine.proofs.Road.{Reaches, itself, onward, reaches_rank, OnRoad, Roads, road_kept}

-- b is of door d for place p
abbrev of_both : ℕ → ℕ → Block → Bool
of_both d p b = eqb b.door d && eqb b.place p

between_in : (d p : ℕ) (b : Block) (bs : List Block) → of_both d p b ≡ true → between d p (b ∷ bs) ≡ b ∷ between d p bs
unfolding between
between_in d p b bs h = cond-true (of_both d p b) (b ∷ between d p bs) (between d p bs) h

between_out : (d p : ℕ) (b : Block) (bs : List Block) → of_both d p b ≡ false → between d p (b ∷ bs) ≡ between d p bs
unfolding between
between_out d p b bs h = cond-false (of_both d p b) (b ∷ between d p bs) (between d p bs) h

between_append : (d p : ℕ) (xs ys : List Block) → between d p (xs ++ ys) ≡ between d p xs ++ between d p ys
unfolding between
between_append d p [] ys = refl
between_append d p (x ∷ xs) ys =
    let i = between_append d p xs ys in
    ⊎_elim
    (λ t. between_in d p x (xs ++ ys) t ∙ (ap (λ (l : List Block). x ∷ l) i ∙ ap (λ (l : List Block). l ++ between d p ys) (sym (between_in d p x xs t))))
    (λ f. between_out d p x (xs ++ ys) f ∙ (i ∙ ap (λ (l : List Block). l ++ between d p ys) (sym (between_out d p x xs f))))
    (cases_Bool (of_both d p x))

between_nil : (d p : ℕ) → between d p [] ≡ []
unfolding between
between_nil d p = refl

push_in : (d p : ℕ) (b : Block) (xs : List Block) → of_both d p b ≡ true → between d p (xs ++ (b ∷ [])) ≡ between d p xs ++ (b ∷ [])
push_in d p b xs h =
    between_append d p xs (b ∷ []) ∙ ap (λ (l : List Block). between d p xs ++ l) (between_in d p b [] h ∙ ap (λ (l : List Block). b ∷ l) (between_nil d p))

push_out : (d p : ℕ) (b : Block) (xs : List Block) → of_both d p b ≡ false → between d p (xs ++ (b ∷ [])) ≡ between d p xs
push_out d p b xs h =
    between_append d p xs (b ∷ []) ∙ (ap (λ (l : List Block). between d p xs ++ l) (between_out d p b [] h ∙ between_nil d p) ∙ append-nil (between d p xs))

-- a bound of the ranks of the links below n
top : (ℕ → ℕ) → ℕ → ℕ
top r zero = 0
top r (suc n) = r n + top r n

below_top : (r : ℕ → ℕ) (n e : ℕ) → e < n → r e ≤ top r n
unfolding top
below_top r zero e l = absurd (omega arith)
below_top r (suc n) e l =
    ⊎_elim (λ q. let k = ap r q in omega arith) (λ o. let i = below_top r n e (omega arith) in omega arith) (cases_eq e n)

-- xs are the blocks of door d for place p that stand from channel c on along the road to p, those nearest to its end first.
data Ahead (z : Net) (d p : ℕ) (q : ℕ → List Block) : ℕ → List Block → Type 0 where
  last : {c : ℕ} {xs : List Block} → z.next c p ≡ Here → xs ≡ between d p (q c) → Ahead z d p q c xs
  more : {c e : ℕ} {xs ys : List Block} → z.next c p ≡ Link e → Ahead z d p q e ys → xs ≡ ys ++ between d p (q c) → Ahead z d p q c xs

module _ (z : Net) (g : Good z) (d p : ℕ) where
  ahead_same : (q r : ℕ → List Block) {c : ℕ} {xs : List Block} → ((k : ℕ) → z.rank c ≤ z.rank k → between d p (r k) ≡ between d p (q k)) →
      Ahead z d p q c xs → Ahead z d p r c xs
  ahead_same q r {c} h (last n x) = last n (x ∙ sym (h c (omega arith)))
  ahead_same q r {c} h (more {e} {ys} n a x) =
      let u = g.rises c p e n in
      more n (ahead_same q r (λ k l. h k (omega arith)) a) (x ∙ ap (λ (w : List Block). ys ++ w) (sym (h c (omega arith))))

  -- one more stands last in the channel
  ahead_push : (q r : ℕ → List Block) (b : Block) {c : ℕ} {xs : List Block} → between d p (r c) ≡ between d p (q c) ++ (b ∷ []) →
      ((k : ℕ) → z.rank c < z.rank k → between d p (r k) ≡ between d p (q k)) →
      Ahead z d p q c xs → Ahead z d p r c (xs ++ (b ∷ []))
  ahead_push q r b m h (last n x) = last n (ap (λ (w : List Block). w ++ (b ∷ [])) x ∙ sym m)
  ahead_push q r b {c} m h (more {e} {ys} n a x) =
      let u = g.rises c p e n in
      more n (ahead_same q r (λ k l. h k (omega arith)) a)
      (ap (λ (w : List Block). w ++ (b ∷ [])) x ∙ (append_assoc ys (between d p (q c)) (b ∷ []) ∙ ap (λ (w : List Block). ys ++ w) (sym m)))

  -- the first of channel c goes over link e
  ahead_moves : (q r : ℕ → List Block) (b : Block) (ws : List Block) {c a e : ℕ} {xs : List Block} → Reaches z p c a → z.next c p ≡ Link e →
      between d p (q c) ≡ b ∷ ws → between d p (r c) ≡ ws → between d p (r e) ≡ between d p (q e) ++ (b ∷ []) →
      ((k : ℕ) → (k ≡ c → ⊥) → (k ≡ e → ⊥) → between d p (r k) ≡ between d p (q k)) →
      Ahead z d p q a xs → Ahead z d p r a xs
  ahead_moves q r b ws (itself s) n f m t h (last i x) = let y : ◌≡◌ {A = ℕ} 0 1 = cc (ap (λ (j : ℕ). z.next j p) s) in absurd (omega arith)
  ahead_moves q r b ws {c} {a} {e} (itself s) n f m t h (more {e = e₁} {ys} i v x) =
      let s₁ = ap (λ (j : ℕ). z.next j p) s in
      let same : e₁ ≡ e = cc in
      let u = g.rises c p e n in
      let v₁ : Ahead z d p q e ys = subst (λ (j : ℕ). Ahead z d p q j ys) same v in
      let fa : between d p (q a) ≡ b ∷ ws = ap (λ (j : ℕ). between d p (q j)) s ∙ f in
      let ma : between d p (r a) ≡ ws = ap (λ (j : ℕ). between d p (r j)) s ∙ m in
      more (s₁ ∙ n) (ahead_push q r b t (λ k l. h k (λ y. apart z c k (omega arith) (sym y)) (λ y. apart z e k l (sym y))) v₁)
      (x ∙ (ap (λ (w : List Block). ys ++ w) fa ∙ (sym (append_assoc ys (b ∷ []) ws) ∙ ap (λ (w : List Block). (ys ++ (b ∷ [])) ++ w) (sym ma))))
  ahead_moves q r b ws (onward s o) n f m t h (last i x) = let y : ◌≡◌ {A = ℕ} 0 1 = cc in absurd (omega arith)
  ahead_moves q r b ws {c} {a} {e} (onward {e = e₀} s o) n f m t h (more {e = e₁} {ys} i v x) =
      let same : e₁ ≡ e₀ = cc in
      let v₁ : Ahead z d p q e₀ ys = subst (λ (j : ℕ). Ahead z d p q j ys) same v in
      let u = g.rises c p e n in
      let y = g.rises a p e₀ s in
      let l = reaches_rank g o in
      more s (ahead_moves q r b ws o n f m t h v₁)
      (x ∙ ap (λ (w : List Block). ys ++ w) (sym (h a (apart z a c (omega arith)) (apart z a e (omega arith)))))

  -- the first of channel c, at the road's end, is handed over
  ahead_hands : (q r : ℕ → List Block) (b : Block) (ws : List Block) {c a : ℕ} {xs : List Block} → Reaches z p c a → z.next c p ≡ Here →
      between d p (q c) ≡ b ∷ ws → between d p (r c) ≡ ws → ((k : ℕ) → (k ≡ c → ⊥) → between d p (r k) ≡ between d p (q k)) →
      Ahead z d p q a xs → (ys : List Block) × (xs ≡ b ∷ ys) × Ahead z d p r a ys
  ahead_hands q r b ws (itself s) n f m h (last i x) =
      (ws, x ∙ (ap (λ (j : ℕ). between d p (q j)) s ∙ f), last i (sym (ap (λ (j : ℕ). between d p (r j)) s ∙ m)))
  ahead_hands q r b ws (itself s) n f m h (more i v x) = let y : ◌≡◌ {A = ℕ} 0 1 = cc (ap (λ (j : ℕ). z.next j p) s) in absurd (omega arith)
  ahead_hands q r b ws (onward s o) n f m h (last i x) = let y : ◌≡◌ {A = ℕ} 0 1 = cc in absurd (omega arith)
  ahead_hands q r b ws {c} {a} (onward {e = e₀} s o) n f m h (more {e = e₁} {ys} i v x) =
      let same : e₁ ≡ e₀ = cc in
      let v₁ : Ahead z d p q e₀ ys = subst (λ (j : ℕ). Ahead z d p q j ys) same v in
      let y = g.rises a p e₀ s in
      let l = reaches_rank g o in
      let k = ahead_hands q r b ws o n f m h v₁ in (
        k.0 ++ between d p (r a),
        x ∙ (ap (λ (w : List Block). w ++ between d p (q a)) k.1 ∙ ap (λ (w : List Block). b ∷ (k.0 ++ w)) (sym (h a (apart z a c (omega arith))))),
        more s k.2 refl,
      )

  -- roads end, since ranks rise
  ahead_none : (k c : ℕ) → top z.rank z.links < z.rank c + k → Ahead z d p (λ j. []) c []
  ahead_none zero c l = ends (z.next c p) refl
    where
      ends : (n : Entry) → z.next c p ≡ n → Ahead z d p (λ j. []) c []
      ends Here n = last n (sym (between_nil d p))
      ends (Link e) n = let u = g.rises c p e n in let t = below_top z.rank z.links e u.0 in absurd (omega arith)
  ahead_none (suc k) c l = goes (λ e m. ahead_none k e m) (z.next c p) refl
    where
      goes : ((e : ℕ) → top z.rank z.links < z.rank e + k → Ahead z d p (λ j. []) e []) → (n : Entry) → z.next c p ≡ n → Ahead z d p (λ j. []) c []
      goes on Here n = last n (sym (between_nil d p))
      goes on (Link e) n = let u = g.rises c p e n in more n (on e (omega arith)) (sym (between_nil d p))

-- What came and what stands along the road are together what was let in, in its order.
record Line (z : Net) (d p : ℕ) (xs : List Block) (q : ℕ → List Block) (ks : List Came) : Type 0 where
  roads : Roads z q ks
  rest : List Block
  ahead : Ahead z d p q (z.links + d) rest
  all : between d p (blocks ks) ++ rest ≡ between d p xs

-- b, of door d and for place p, has both
both_are : (d p : ℕ) (b : Block) → of_both d p b ≡ true → (b.door ≡ d) × (b.place ≡ p)
both_are d p b t = let h = and_parts (eqb b.door d) (eqb b.place p) t in (eqb-true b.door d h.0, eqb-true b.place p h.1)

module _ (z : Net) (g : Good z) (d p : ℕ) where
  line_enters : (xs : List Block) {b : Block} {s t : State} → Entered z b s t → Line z d p xs s.queue s.came → Line z d p (xs ++ (b ∷ [])) t.queue t.came
  line_enters xs {b} {s} {t} m h = ⊎_elim in_line beside (cases_Bool (of_both d p b))
    where
      in_line : of_both d p b ≡ true → Line z d p (xs ++ (b ∷ [])) t.queue t.came
      in_line y =
          let at-door : z.links + d ≡ z.links + b.door = ap (λ (j : ℕ). z.links + j) (sym (both_are d p b y).0) in
          let here : between d p (t.queue (z.links + d)) ≡ between d p (s.queue (z.links + d)) ++ (b ∷ []) =
          ap (between d p) (subst (λ (j : ℕ). t.queue j ≡ s.queue j ++ (b ∷ [])) (sym at-door) m.here) ∙ push_in d p b (s.queue (z.links + d)) y in
          record {
            roads = (road_kept z).enters {xs = xs} m h.roads;
            rest = h.rest ++ (b ∷ []);
            ahead = ahead_push z g d p s.queue t.queue b here
                (λ k l. ap (between d p) (m.other k (λ q. apart z (z.links + d) k l (at-door ∙ sym q)))) h.ahead;
            all = ap (λ (ks : List Came). between d p (blocks ks) ++ (h.rest ++ (b ∷ []))) m.came ∙
                (sym (append_assoc (between d p (blocks s.came)) h.rest (b ∷ [])) ∙
                (ap (λ (w : List Block). w ++ (b ∷ [])) h.all ∙ sym (push_in d p b xs y)));
          }

      beside : of_both d p b ≡ false → Line z d p (xs ++ (b ∷ [])) t.queue t.came
      beside n = record {
        roads = (road_kept z).enters {xs = xs} m h.roads;
        rest = h.rest;
        ahead = ahead_same z g d p s.queue t.queue
            (λ k l. ⊎_elim
            (λ q. ap (λ (j : ℕ). between d p (t.queue j)) q ∙ (ap (between d p) m.here ∙
            (push_out d p b (s.queue (z.links + b.door)) n ∙ sym (ap (λ (j : ℕ). between d p (s.queue j)) q))))
            (λ o. ap (between d p) (m.other k o))
            (cases_eq k (z.links + b.door)))
            h.ahead;
        all = ap (λ (ks : List Came). between d p (blocks ks) ++ h.rest) m.came ∙ (h.all ∙ sym (push_out d p b xs n));
      }

  -- the first of a channel, if it is of door d and for place p, stands on the road
  on_line : {q : ℕ → List Block} {ks : List Came} {c : ℕ} {b : Block} {bs : List Block} → Roads z q ks → q c ≡ b ∷ bs → of_both d p b ≡ true →
      Reaches z p c (z.links + d)
  on_line {q} {c = c} {b} {bs} r f y =
      let h = both_are d p b y in
      let first : All (OnRoad z c) (b ∷ bs) = subst (All (OnRoad z c)) f (r.standing c) in
      let o : Reaches z p c (z.links + b.door) = subst (λ (j : ℕ). Reaches z j c (z.links + b.door)) h.1 first.0 in
      subst (λ (j : ℕ). Reaches z p c (z.links + j)) h.0 o

  goes_by : (c : ℕ) (b : Block) (n : Entry) → of_both d p b ≡ true → z.next c b.place ≡ n → z.next c p ≡ n
  goes_by c b n y h = subst (λ (j : ℕ). z.next c j ≡ n) (both_are d p b y).1 h

  line_hands : (xs : List Block) {c : ℕ} {b : Block} {bs : List Block} {s t : State} → Handed z c b bs s t →
      Line z d p xs s.queue s.came → Line z d p xs t.queue t.came
  line_hands xs {c} {b} {bs} {s} {t} m h = ⊎_elim in_line beside (cases_Bool (of_both d p b))
    where
      in_line : of_both d p b ≡ true → Line z d p xs t.queue t.came
      in_line y =
          let k = ahead_hands z g d p s.queue t.queue b (between d p bs) (on_line h.roads m.first y) (goes_by c b Here y m.next)
          (ap (between d p) m.first ∙ between_in d p b bs y) (ap (between d p) m.here) (λ j o. ap (between d p) (m.other j o)) h.ahead in
          record {
            roads = (road_kept z).hands {xs = xs} m h.roads;
            rest = k.0;
            ahead = k.2;
            all = ap (λ (w : List Block). between d p w ++ k.0) (handed_blocks m) ∙
                (ap (λ (w : List Block). w ++ k.0) (push_in d p b (blocks s.came) y) ∙
                (append_assoc (between d p (blocks s.came)) (b ∷ []) k.0 ∙
                (ap (λ (w : List Block). between d p (blocks s.came) ++ w) (sym k.1) ∙ h.all)));
          }

      beside : of_both d p b ≡ false → Line z d p xs t.queue t.came
      beside n = record {
        roads = (road_kept z).hands {xs = xs} m h.roads;
        rest = h.rest;
        ahead = ahead_same z g d p s.queue t.queue
            (λ k l. ⊎_elim
            (λ q. ap (λ (j : ℕ). between d p (t.queue j)) q ∙ (ap (between d p) m.here ∙
            sym (ap (λ (j : ℕ). between d p (s.queue j)) q ∙ (ap (between d p) m.first ∙ between_out d p b bs n))))
            (λ o. ap (between d p) (m.other k o))
            (cases_eq k c))
            h.ahead;
        all = ap (λ (w : List Block). w ++ h.rest) (ap (between d p) (handed_blocks m) ∙ push_out d p b (blocks s.came) n) ∙ h.all;
      }

  line_moves : (xs : List Block) {e c : ℕ} {b : Block} {bs : List Block} {s t : State} → Moved z e c b bs s t →
      Line z d p xs s.queue s.came → Line z d p xs t.queue t.came
  line_moves xs {e} {c} {b} {bs} {s} {t} m h = record {
    roads = (road_kept z).moves {xs = xs} m h.roads;
    rest = h.rest;
    ahead = ⊎_elim in_line beside (cases_Bool (of_both d p b));
    all = ap (λ (ks : List Came). between d p (blocks ks) ++ h.rest) m.came ∙ h.all;
  }
    where
      in_line : of_both d p b ≡ true → Ahead z d p t.queue (z.links + d) h.rest
      in_line y =
          ahead_moves z g d p s.queue t.queue b (between d p bs) (on_line h.roads m.first y) (goes_by c b (Link e) y m.next)
          (ap (between d p) m.first ∙ between_in d p b bs y) (ap (between d p) m.from)
          (ap (between d p) m.to ∙ push_in d p b (s.queue e) y) (λ k n o. ap (between d p) (m.other k n o)) h.ahead

      beside : of_both d p b ≡ false → Ahead z d p t.queue (z.links + d) h.rest
      beside n = ahead_same z g d p s.queue t.queue
          (λ k l. ⊎_elim
          (λ q. ap (λ (j : ℕ). between d p (t.queue j)) q ∙ (ap (between d p) m.from ∙
          sym (ap (λ (j : ℕ). between d p (s.queue j)) q ∙ (ap (between d p) m.first ∙ between_out d p b bs n))))
          (λ i. ⊎_elim
          (λ q. ap (λ (j : ℕ). between d p (t.queue j)) q ∙ (ap (between d p) m.to ∙
          (push_out d p b (s.queue e) n ∙ sym (ap (λ (j : ℕ). between d p (s.queue j)) q))))
          (λ o. ap (between d p) (m.other k i o))
          (cases_eq k e))
          (cases_eq k c))
          h.ahead

  line_kept : Kept z (λ xs s. Line z d p xs s.queue s.came)
  unfolding between blocks
  line_kept = record {
    begins = record {
      roads = (road_kept z).begins;
      rest = [];
      ahead = ahead_none z g d p (suc (top z.rank z.links)) (z.links + d) (omega arith);
      all = refl;
    };
    enters = λ {xs} m h. line_enters xs m h;
    counts = λ h. h;
    hands = λ {xs} m h. line_hands xs m h;
    moves = λ {xs} m h. line_moves xs m h;
  }

pub in_order : InOrder
in_order z g vs o d p =
    let h = always z g (λ xs s. Line z d p xs s.queue s.came) (line_kept z g d p) vs o in (h.rest, h.all)
