-- What has gone from each channel, stays and is new there since a round began, and how that changes by one hand-over or one move. Assumes nothing.
use Rattle.std.proofs.Common.{◌≡◌, ℕ, suc, ◌+◌, ◌<◌, ◌≤◌, Bool, true, false, cond, eqb, ltb, ◌⊎◌, List, [], ◌∷◌, ◌++◌, length, sym, refl, ap, ◌∙◌, subst, inl, inr, ⊎_elim, append_assoc, append-nil, arith}
use mathlib.Core.List.Memᴰ
use mathlib.Core.List.{Memᴰ}
use Rattle.std.proofs.lemmas.List.{length_push}
use Rattle.std.proofs.lemmas.Bool.{cond_both, eqb-true, eqb-false, ltb-false}
use Rattle.net.specs.declared.Block.{Block}
use Rattle.net.specs.declared.Came.{Came}
use Rattle.net.specs.declared.Entry.TheVariants.{Here, Link}
use Rattle.net.specs.Net.{Net, channels}
use Rattle.net.specs.Heads.{tail_of}
use Rattle.machine.specs.Round.{State, at, firsts, leave, deliver, move, noted}
use Rattle.machine.specs.Promise.{blocks}
use Rattle.machine.proofs.Steps.{at_same, at_other}

pub record Flow : Type 0 where
  pub gone : ℕ → List Block
  pub kept : ℕ → List Block
  pub new : ℕ → List Block
  pub over : List Came

abbrev pub Source : Net → Flow → ℕ → Block → Type 0
Source z f e b = (c : ℕ) × (c < channels z) × (Memᴰ b (f.gone c)) × (z.next c b.place ≡ Link e)

abbrev pub Goes : Net → Flow → ℕ → Block → Type 0
Goes z f c b =
    ((z.next c b.place ≡ Here) × Memᴰ b (blocks f.over)) ⊎ ((e : ℕ) × (z.next c b.place ≡ Link e) × (f.new e ≡ b ∷ []))

-- what holds of the flow from s to m
pub record Flows (z : Net) (s m : State) (f : Flow) : Type 0 where
  pub before : (c : ℕ) → s.queue c ≡ f.gone c ++ f.kept c
  pub afterwards : (c : ℕ) → m.queue c ≡ f.kept c ++ f.new c
  pub one : (c : ℕ) → length (f.new c) ≤ 1
  pub source : (e : ℕ) (b : Block) → Memᴰ b (f.new e) → Source z f e b
  pub goes : (c : ℕ) (b : Block) → Memᴰ b (f.gone c) → Goes z f c b
  pub came : m.came ≡ s.came ++ f.over

-- cases on whether k is the place at which a function was changed
pub by_at : (i k : ℕ) (P : Bool → Type 0) → (k ≡ i → P true) → ((k ≡ i → ⊥) → P false) → P (eqb k i)
by_at i k P t f = go (eqb k i) refl
  where
    go : (v : Bool) → eqb k i ≡ v → P v
    go true e = t (eqb-true k i e)
    go false e = f (eqb-false k i e)

pub blocks_append : (ks ls : List Came) → blocks (ks ++ ls) ≡ blocks ks ++ blocks ls
unfolding blocks
blocks_append [] ls = refl
blocks_append (k ∷ ks) ls = ap (λ (x : List Block). k.block ∷ x) (blocks_append ks ls)

pub blocks_left : (ks ls : List Came) (b : Block) → Memᴰ b (blocks ks) → Memᴰ b (blocks (ks ++ ls))
blocks_left ks ls b m = subst (λ (x : List Block). Memᴰ b x) (sym (blocks_append ks ls)) (Memᴰ.append_left (blocks ls) m)

pub blocks_right : (ks ls : List Came) (b : Block) → Memᴰ b (blocks ls) → Memᴰ b (blocks (ks ++ ls))
blocks_right ks ls b m = subst (λ (x : List Block). Memᴰ b x) (sym (blocks_append ks ls)) (Memᴰ.append_right (blocks ks) m)

blocks_one : (k : Came) → Memᴰ k.block (blocks (k ∷ []))
unfolding blocks
blocks_one k = Memᴰ.head refl

pub no_cons : {A : Type 0} (x : A) (xs : List A) → x ∷ xs ≡ [] → ⊥
no_cons x xs e = let l : suc (length xs) ≡ 0 = ap length e in omega arith

pub no_push : {A : Type 0} (xs : List A) (x : A) → xs ++ (x ∷ []) ≡ [] → ⊥
no_push xs x e = let l : length (xs ++ (x ∷ [])) ≡ 0 = ap length e in omega (arith, length_push xs x)

pub leave_free_other : (z : Net) (c : ℕ) (m : State) (k : ℕ) → (k ≡ c → ⊥) → (leave z c m).free k ≡ m.free k
leave_free_other z c m k n =
    cond_both (ltb c z.links) (at c (m.free c + 1) m.free) m.free (λ g. g k ≡ m.free k)
    (λ w. at_other c (m.free c + 1) m.free k n) (λ w. refl)

pub leave_free : (z : Net) (c : ℕ) (m : State) (k : ℕ) → k < z.links → (leave z c m).free k ≡ at c (m.free c + 1) m.free k
leave_free z c m k l =
    cond_both (ltb c z.links) (at c (m.free c + 1) m.free) m.free (λ g. g k ≡ at c (m.free c + 1) m.free k)
    (λ w. refl)
    (λ w. let n = ltb-false c z.links w in sym (at_other c (m.free c + 1) m.free k (λ e. omega arith)))

abbrev pub handed : ℕ → Block → List Block → Came → Flow → Flow
handed c b bs k f = record {
  gone = at c (f.gone c ++ (b ∷ [])) f.gone;
  kept = at c bs f.kept;
  new = f.new;
  over = f.over ++ (k ∷ []);
}

abbrev pub moved : ℕ → ℕ → Block → List Block → Flow → Flow
moved e c b bs f = record {
  gone = at c (f.gone c ++ (b ∷ [])) f.gone;
  kept = at c bs f.kept;
  new = at e (b ∷ []) f.new;
  over = f.over;
}

-- b is the first of c, which has got nothing new yet
module _ (z : Net) (s m : State) (f : Flow) (h : Flows z s m f) (c : ℕ) (b : Block) (bs : List Block) (q : m.queue c ≡ b ∷ bs) (n : f.new c ≡ []) where
  kept_was : f.kept c ≡ b ∷ bs
  kept_was = sym (append-nil (f.kept c)) ∙ ap (λ (x : List Block). f.kept c ++ x) (sym n) ∙ sym (h.afterwards c) ∙ q

  lost_before : (k : ℕ) → s.queue k ≡ at c (f.gone c ++ (b ∷ [])) f.gone k ++ at c bs f.kept k
  lost_before k =
      by_at c k (λ v. s.queue k ≡ cond v (f.gone c ++ (b ∷ [])) (f.gone k) ++ cond v bs (f.kept k))
      (λ e. ap s.queue e ∙ h.before c ∙ ap (λ (x : List Block). f.gone c ++ x) kept_was ∙ sym (append_assoc (f.gone c) (b ∷ []) bs))
      (λ e. h.before k)

  pub lost_grows : (k : ℕ) (x : Block) → Memᴰ x (f.gone k) → Memᴰ x (at c (f.gone c ++ (b ∷ [])) f.gone k)
  lost_grows k x i =
      by_at c k (λ v. Memᴰ x (cond v (f.gone c ++ (b ∷ [])) (f.gone k)))
      (λ e. Memᴰ.append_left (b ∷ []) (subst (λ (j : ℕ). Memᴰ x (f.gone j)) e i)) (λ e. i)

  pub lost_here : Memᴰ b (at c (f.gone c ++ (b ∷ [])) f.gone c)
  lost_here = subst (λ (l : List Block). Memᴰ b l) (sym (at_same c (f.gone c ++ (b ∷ [])) f.gone)) (Memᴰ.append_right (f.gone c) (Memᴰ.head refl))

  lost_cases : (k : ℕ) (x : Block) → Memᴰ x (at c (f.gone c ++ (b ∷ [])) f.gone k) → Memᴰ x (f.gone k) ⊎ ((k ≡ c) × (x ≡ b))
  lost_cases k x =
      by_at c k (λ v. Memᴰ x (cond v (f.gone c ++ (b ∷ [])) (f.gone k)) → Memᴰ x (f.gone k) ⊎ ((k ≡ c) × (x ≡ b)))
      (λ e i. ⊎_elim (λ (j : Memᴰ x (f.gone c)). inl (subst (λ (a : ℕ). Memᴰ x (f.gone a)) (sym e) j))
      (λ (j : Memᴰ x (b ∷ [])). inr (e, Memᴰ.eq_of_singleton j)) (Memᴰ.append_cases (f.gone c) i))
      (λ e i. inl i)

  pub lost_none : (k : ℕ) → at c (f.gone c ++ (b ∷ [])) f.gone k ≡ [] → (f.gone k ≡ []) × (k ≡ c → ⊥)
  lost_none k =
      by_at c k (λ v. cond v (f.gone c ++ (b ∷ [])) (f.gone k) ≡ [] → (f.gone k ≡ []) × (k ≡ c → ⊥))
      (λ e i. absurd (no_push (f.gone c) b i)) (λ e i. (i, e))

  pub lost_free : (k : ℕ) → k < z.links → m.free k ≡ s.free k + length (f.gone k) →
      (leave z c m).free k ≡ s.free k + length (at c (f.gone c ++ (b ∷ [])) f.gone k)
  lost_free k l w =
      leave_free z c m k l ∙
      by_at c k (λ v. cond v (m.free c + 1) (m.free k) ≡ s.free k + length (cond v (f.gone c ++ (b ∷ [])) (f.gone k)))
      (λ e. let i : m.free k ≡ m.free c = ap m.free e in
      let j : length (f.gone k) ≡ length (f.gone c) = ap (λ (a : ℕ). length (f.gone a)) e in
      omega (arith, length_push (f.gone c) b))
      (λ e. w)

  pub hand_flows : (k : Came) → k ≡ record { block = b; channel = c; round = m.round } → z.next c b.place ≡ Here → Flows z s (deliver z c m) (handed c b bs k f)
  hand_flows k kk to = record {
    before = lost_before;
    afterwards = λ a. by_at c a (λ v. cond v (tail_of (m.queue c)) (m.queue a) ≡ cond v bs (f.kept a) ++ f.new a)
        (λ e. ap tail_of q ∙ sym (append-nil bs) ∙ ap (λ (x : List Block). bs ++ x) (sym (ap f.new e ∙ n)))
        (λ e. h.afterwards a);
    one = h.one;
    source = λ e x i. let r = h.source e x i in (r.0, r.1, lost_grows r.0 x r.2, r.3);
    goes = λ a x i. ⊎_elim (λ (j : Memᴰ x (f.gone a)). old a x (h.goes a x j)) (λ (j : (a ≡ c) × (x ≡ b)). here a x j) (lost_cases a x i);
    came = ap (λ (y : List Block). m.came ++ noted c m.round y) q ∙ ap (λ (y : List Came). y ++ noted c m.round (b ∷ bs)) h.came ∙
        append_assoc s.came f.over (noted c m.round (b ∷ bs)) ∙ ap (λ (y : Came). s.came ++ (f.over ++ (y ∷ []))) (sym kk);
  }
    where
      old : (a : ℕ) (x : Block) → Goes z f a x → Goes z (handed c b bs k f) a x
      old a x (inl g) = inl (g.0, blocks_left f.over (k ∷ []) x g.1)
      old a x (inr g) = inr g

      here : (a : ℕ) (x : Block) → (a ≡ c) × (x ≡ b) → Goes z (handed c b bs k f) a x
      here a x g = inl (
        cc (to, g.0, g.1),
        blocks_right f.over (k ∷ []) x (Memᴰ.cast (g.1 ∙ sym (ap (λ (y : Came). y.block) kk)) (blocks_one k)),
      )

  pub move_flows : (e : ℕ) → c < channels z → f.new e ≡ [] → (c ≡ e → ⊥) → z.next c b.place ≡ Link e → Flows z s (move z e c m) (moved e c b bs f)
  move_flows e l ne apart to = record {
    before = lost_before;
    afterwards = λ a. by_at e a
        (λ v. cond v (at c (tail_of (m.queue c)) m.queue e ++ firsts (m.queue c)) (at c (tail_of (m.queue c)) m.queue a) ≡ at c bs f.kept a ++ cond v (b ∷ []) (f.new a))
        (λ i. there a i) (λ i. other a i);
    one = λ a. by_at e a (λ v. length (cond v (b ∷ []) (f.new a)) ≤ 1) (λ i. omega arith) (λ i. h.one a);
    source = λ a x. by_at e a (λ v. Memᴰ x (cond v (b ∷ []) (f.new a)) → Source z (moved e c b bs f) a x)
        (λ i j. let y = Memᴰ.eq_of_singleton j in (c, l, Memᴰ.cast y lost_here, cc (to, i, y)))
        (λ i j. let r = h.source a x j in (r.0, r.1, lost_grows r.0 x r.2, r.3));
    goes = λ a x i. ⊎_elim (λ (j : Memᴰ x (f.gone a)). old a x (h.goes a x j)) (λ (j : (a ≡ c) × (x ≡ b)). here a x j) (lost_cases a x i);
    came = h.came;
  }
    where
      there : (a : ℕ) → a ≡ e → at c (tail_of (m.queue c)) m.queue e ++ firsts (m.queue c) ≡ at c bs f.kept a ++ (b ∷ [])
      there a i =
          let p : at c (tail_of (m.queue c)) m.queue e ≡ m.queue e = at_other c (tail_of (m.queue c)) m.queue e (λ k. apart (sym k)) in
          let r : m.queue e ≡ f.kept e = h.afterwards e ∙ ap (λ (x : List Block). f.kept e ++ x) ne ∙ append-nil (f.kept e) in
          let u : at c bs f.kept a ≡ f.kept a = at_other c bs f.kept a (λ k. apart (sym k ∙ i)) in
          let v : firsts (m.queue c) ≡ b ∷ [] = ap firsts q in
          let w : f.kept a ≡ f.kept e = ap f.kept i in
          cc

      other : (a : ℕ) → (a ≡ e → ⊥) → at c (tail_of (m.queue c)) m.queue a ≡ at c bs f.kept a ++ f.new a
      other a i = by_at c a (λ v. cond v (tail_of (m.queue c)) (m.queue a) ≡ cond v bs (f.kept a) ++ f.new a)
          (λ k. ap tail_of q ∙ sym (append-nil bs) ∙ ap (λ (x : List Block). bs ++ x) (sym (ap f.new k ∙ n)))
          (λ k. h.afterwards a)

      old : (a : ℕ) (x : Block) → Goes z f a x → Goes z (moved e c b bs f) a x
      old a x (inl g) = inl g
      old a x (inr g) = inr (g.0, g.1, at_other e (b ∷ []) f.new g.0 (λ k. no_cons x [] (sym g.2 ∙ ap f.new k ∙ ne)) ∙ g.2)

      here : (a : ℕ) (x : Block) → (a ≡ c) × (x ≡ b) → Goes z (moved e c b bs f) a x
      here a x g = inr (e, cc (to, g.0, g.1), at_same e (b ∷ []) f.new ∙ ap (λ (y : Block). y ∷ []) (sym g.1))
