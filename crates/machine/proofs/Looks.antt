-- What a first block wants, and what a link finds when it looks round from its turn. Assumes nothing.
use Rattle.std.proofs.Common.{◌≡◌, ℕ, zero, suc, ◌+◌, ◌-◌, ◌<◌, ◌≤◌, true, false, ltb, ◌⊎◌, List, [], ◌∷◌, Some, None, sym, refl, ap, subst, inl, inr, ⊎_elim, arith}
use Rattle.std.proofs.lemmas.Bool.{cond_both, eq-eqb, eqb-true, ltb-true, ltb-false, cases_lt, false≢true}
use Rattle.net.specs.declared.Block.{Block}
use Rattle.net.specs.declared.Entry.{Entry}
use Rattle.net.specs.declared.Entry.TheVariants.{Here, Link}
use Rattle.net.specs.Net.{Net, channels, is_here, is_to}
use Rattle.machine.specs.Round.{comes, wants, look, following}

-- the first of a queue, and where it goes
abbrev pub First : Net → ℕ → List Block → Entry → Type 0
First z c q n = (b : Block) × (bs : List Block) × (q ≡ b ∷ bs) × (z.next c b.place ≡ n)

is_to_true : (e : ℕ) (n : Entry) → is_to e n ≡ true → n ≡ Link e
is_to_true e Here h = absurd (false≢true h)
is_to_true e (Link f) h = ap Link (sym (eqb-true e f h))

is_here_true : (n : Entry) → is_here n ≡ true → n ≡ Here
is_here_true Here h = refl
is_here_true (Link f) h = absurd (false≢true h)

pub wants_parts : (z : Net) (e c : ℕ) (q : List Block) → wants z e c q ≡ true → First z c q (Link e)
wants_parts z e c [] h = absurd (false≢true h)
wants_parts z e c (b ∷ bs) h = (b, bs, refl, is_to_true e (z.next c b.place) h)

pub wants_from : (z : Net) (e c : ℕ) (b : Block) (bs : List Block) → z.next c b.place ≡ Link e → wants z e c (b ∷ bs) ≡ true
wants_from z e c b bs h = subst (λ (n : Entry). is_to e n ≡ true) (sym h) (eq-eqb e e refl)

pub comes_parts : (z : Net) (c : ℕ) (q : List Block) → comes z c q ≡ true → First z c q Here
comes_parts z c [] h = absurd (false≢true h)
comes_parts z c (b ∷ bs) h = (b, bs, refl, is_here_true (z.next c b.place) h)

pub comes_here : (z : Net) (c : ℕ) (b : Block) (bs : List Block) → z.next c b.place ≡ Here → comes z c (b ∷ bs) ≡ true
comes_here z c b bs h = subst (λ (n : Entry). is_here n ≡ true) (sym h) refl

-- c is d channels on from t, going round
abbrev pub Away : Net → ℕ → ℕ → ℕ → Type 0
Away z t c d = (d + t ≡ c) ⊎ (d + t ≡ c + channels z)

pub following_below : (z : Net) (t : ℕ) → t < channels z → following z t < channels z
following_below z t l =
    cond_both (ltb (t + 1) (channels z)) (t + 1) 0 (λ f. f < channels z) (λ w. ltb-true (t + 1) (channels z) w) (λ w. omega arith)

away_on : (z : Net) (t c d : ℕ) → t < channels z → d < channels z → Away z (following z t) c d → Away z t c (suc d)
away_on z t c d l m =
    cond_both (ltb (t + 1) (channels z)) (t + 1) 0 (λ f. Away z f c d → Away z t c (suc d))
    (λ w. ⊎_elim (λ p. inl (omega arith)) (λ p. inr (omega arith)))
    (λ w. let n = ltb-false (t + 1) (channels z) w in ⊎_elim (λ p. inr (omega arith)) (λ p. absurd (omega arith)))

away_back : (z : Net) (t c d : ℕ) → t < channels z → c < channels z → Away z t c (suc d) → Away z (following z t) c d
away_back z t c d l m h =
    cond_both (ltb (t + 1) (channels z)) (t + 1) 0 (λ f. Away z f c d)
    (λ w. ⊎_elim (λ p. inl (omega arith)) (λ p. inr (omega arith)) h)
    (λ w. let n = ltb-false (t + 1) (channels z) w in ⊎_elim (λ p. absurd (omega arith)) (λ p. inl (omega arith)) h)

pub away : (z : Net) (t c : ℕ) → t < channels z → c < channels z → (d : ℕ) × (d < channels z) × Away z t c d
away z t c l m =
    ⊎_elim (λ (p : c < t). ((c + channels z) - t, omega arith, inr (omega arith))) (λ (p : t ≤ c). (c - t, omega arith, inl (omega arith))) (cases_lt c t)

pub away_same : (z : Net) (t a c d : ℕ) → a < channels z → c < channels z → Away z t a d → Away z t c d → a ≡ c
away_same z t a c d l m (inl p) (inl q) = omega arith
away_same z t a c d l m (inl p) (inr q) = absurd (omega arith)
away_same z t a c d l m (inr p) (inl q) = absurd (omega arith)
away_same z t a c d l m (inr p) (inr q) = omega arith

-- looking from t at k channels, c is the first that wants e
pub record Found (z : Net) (e : ℕ) (q : ℕ → List Block) (t k c : ℕ) : Type 0 where
  pub steps : ℕ
  pub short : steps < k
  pub far : Away z t c steps
  pub channel : c < channels z
  pub wanting : wants z e c (q c) ≡ true
  pub first : (a d : ℕ) → a < channels z → Away z t a d → d < steps → wants z e a (q a) ≡ false

nearest : (z : Net) (e : ℕ) (q : ℕ → List Block) (t a : ℕ) → t < channels z → Away z t a 0 → wants z e t (q t) ≡ false → wants z e a (q a) ≡ false
nearest z e q t a l (inl p) w = let r : t ≡ a = omega arith in subst (λ (j : ℕ). wants z e j (q j) ≡ false) r w
nearest z e q t a l (inr p) w = absurd (omega arith)

pub look_finds : (z : Net) (e : ℕ) (q : ℕ → List Block) (k t c : ℕ) → k ≤ channels z → t < channels z → look z e q t k ≡ Some c → Found z e q t k c
unfolding look
look_finds z e q zero t c n l h = let x : ◌≡◌ {A = ℕ} 0 1 = cc in absurd (omega arith)
look_finds z e q (suc k) t c n l h =
    cond_both (wants z e t (q t)) (Some t) (look z e q (following z t) k) (λ v. v ≡ Some c → Found z e q t (suc k) c)
    (λ w p. let r : t ≡ c = cc in record {
      steps = 0;
      short = omega arith;
      far = inl (omega arith);
      channel = omega arith;
      wanting = subst (λ (j : ℕ). wants z e j (q j) ≡ true) r w;
      first = λ a d i f m. absurd (omega arith);
    })
    (λ w p. on w (look_finds z e q k (following z t) c (omega arith) (following_below z t l) p))
    h
  where
    on : wants z e t (q t) ≡ false → Found z e q (following z t) k c → Found z e q t (suc k) c
    on w r =
        let sh = r.short in
        record {
          steps = suc r.steps;
          short = omega arith;
          far = away_on z t c r.steps l (omega arith) r.far;
          channel = r.channel;
          wanting = r.wanting;
          first = before;
        }
      where
        before : (a d : ℕ) → a < channels z → Away z t a d → d < suc r.steps → wants z e a (q a) ≡ false
        before a zero i f m = nearest z e q t a l f w
        before a (suc d) i f m = r.first a d i (away_back z t a d l i f) (omega arith)

pub look_fails : (z : Net) (e : ℕ) (q : ℕ → List Block) (k t : ℕ) → t < channels z → look z e q t k ≡ None →
    (a d : ℕ) → a < channels z → Away z t a d → d < k → wants z e a (q a) ≡ false
unfolding look
look_fails z e q zero t l h a d i f m = absurd (omega arith)
look_fails z e q (suc k) t l h a d i f m =
    cond_both (wants z e t (q t)) (Some t) (look z e q (following z t) k) (λ v. v ≡ None → wants z e a (q a) ≡ false)
    (λ w p. let x : ◌≡◌ {A = ℕ} 0 1 = cc in absurd (omega arith))
    (λ w p. on (λ j. look_fails z e q k (following z t) (following_below z t l) p a j i) w d f m)
    h
  where
    on : ((j : ℕ) → Away z (following z t) a j → j < k → wants z e a (q a) ≡ false) → wants z e t (q t) ≡ false →
        (d : ℕ) → Away z t a d → d < suc k → wants z e a (q a) ≡ false
    on r w zero f m = nearest z e q t a l f w
    on r w (suc j) f m = r j (away_back z t a j l i f) (omega arith)
