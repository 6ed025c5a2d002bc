-- What patience, feeders and the rest of a road satisfy, whatever they are. Assumes nothing.
use Rattle.std.proofs.Common.{◌≡◌, ℕ, zero, suc, ◌+◌, ◌-◌, ◌*◌, ◌<◌, ◌≤◌, true, cond, ltb, refl, ap, ◌∙◌, subst, inl, inr, ⊎_elim, le_trans, mul-le-mul_left, add-one, arith}
use Rattle.std.proofs.lemmas.Bool.{cond_both, cond-true, cond-false, eq-eqb, lt-ltb, le-ltb, cases_eq, cases_lt, or_left, or_right}
use Rattle.net.specs.declared.Entry.{Entry}
use Rattle.net.specs.declared.Entry.TheVariants.{Here, Link}
use Rattle.net.specs.Net.{Net, Good, channels, is_to}
use Rattle.machine.specs.Round.{following}
use Rattle.machine.specs.Waits.{feeds, feeders, by_entry, worst, within, patience, onward}
use Rattle.machine.proofs.Looks.{Away}
use Rattle.machine.proofs.Motion.{height, height_most, height_falls}

-- P is enough patience, and R enough for the rest of a road, of so many links at most
pub record Patient (z : Net) (P : ℕ → ℕ) (R : ℕ → ℕ → ℕ → ℕ) : Type 0 where
  pub least : (c : ℕ) → 1 ≤ P c
  pub feed : (c p e : ℕ) → p < z.places → z.next c p ≡ Link e → feeders z e (channels z) * P e ≤ P c
  pub road : (k c p e : ℕ) → z.next c p ≡ Link e → R (suc k) c p ≡ z.store * P e + R k e p

module _ (z : Net) (c : ℕ) where
  worst_least : (f : ℕ → ℕ) (p : ℕ) → 1 ≤ worst z f c p
  unfolding worst
  worst_least f zero = omega arith
  worst_least f (suc p) = let i = worst_least f p in omega arith

  worst_has : (f : ℕ → ℕ) (n p e : ℕ) → p < n → z.next c p ≡ Link e → f e ≤ worst z f c n
  unfolding worst
  worst_has f zero p e l q = absurd (omega arith)
  worst_has f (suc n) p e l q =
      ⊎_elim
      (λ (i : p ≡ n).
      let k : by_entry 1 f (z.next c n) ≡ f e = ap (by_entry 1 f) (subst (λ (j : ℕ). z.next c j ≡ Link e) i q) in
      omega arith)
      (λ (i : p ≡ n → ⊥). let k = worst_has f n p e (omega arith) q in omega arith) (cases_eq p n)

  worst_none : (f : ℕ → ℕ) → ((p e : ℕ) → z.next c p ≡ Link e → ⊥) → (n : ℕ) → worst z f c n ≤ 1
  unfolding worst
  worst_none f h zero = omega arith
  worst_none f h (suc n) = let i = worst_none f h n in let j = go (z.next c n) refl in omega arith
    where
      go : (x : Entry) → z.next c n ≡ x → by_entry 1 f (z.next c n) ≤ 1
      go Here q = let k : by_entry 1 f (z.next c n) ≡ 1 = ap (by_entry 1 f) q in omega arith
      go (Link e) q = absurd (h n e q)

  worst_less : (f g : ℕ → ℕ) → ((p e : ℕ) → z.next c p ≡ Link e → f e ≤ g e) → (n : ℕ) → worst z f c n ≤ worst z g c n
  unfolding worst
  worst_less f g h zero = omega arith
  worst_less f g h (suc n) = let i = worst_less f g h n in let j = go (z.next c n) refl in omega arith
    where
      go : (x : Entry) → z.next c n ≡ x → by_entry 1 f (z.next c n) ≤ by_entry 1 g (z.next c n)
      go Here q =
          let k : by_entry 1 f (z.next c n) ≡ 1 = ap (by_entry 1 f) q in let l : by_entry 1 g (z.next c n) ≡ 1 = ap (by_entry 1 g) q in omega arith
      go (Link e) q =
          let k : by_entry 1 f (z.next c n) ≡ f e = ap (by_entry 1 f) q in let l : by_entry 1 g (z.next c n) ≡ g e = ap (by_entry 1 g) q in
          let m = h n e q in omega arith

module _ (z : Net) (good : Good z) where
  -- no more than so many links on from c there are
  within_enough : (k c : ℕ) → height z c ≤ k → within (suc k) z c ≤ within k z c
  unfolding within
  within_enough zero c l =
      worst_none z c (λ e. feeders z e (channels z) * within 0 z e) (λ p e q. let f = height_falls z good c p e q in omega arith) z.places
  within_enough (suc k) c l =
      worst_less z c (λ e. feeders z e (channels z) * within (suc k) z e) (λ e. feeders z e (channels z) * within k z e)
      (λ p e q. let f = height_falls z good c p e q in mul-le-mul_left (feeders z e (channels z)) (within_enough k e (omega arith))) z.places

  pub patient : Patient z (patience z) (λ k c p. onward k z c p)
  unfolding within onward
  patient = record {
    least = λ c. worst_least z c (λ e. feeders z e (channels z) * within z.links z e) z.places;
    feed = λ c p e l q.
        let a = worst_has z c (λ e. feeders z e (channels z) * within z.links z e) z.places p e l q in
        let b = mul-le-mul_left (feeders z e (channels z)) (within_enough z.links e (height_most z e)) in
        le_trans b a;
    road = λ k c p e q. ap (by_entry 0 (λ e. z.store * patience z e + onward k z e p)) q;
  }

-- the table sends the blocks of some place from c to e
abbrev pub Feeder : Net → ℕ → ℕ → Type 0
Feeder z e c = (p : ℕ) × (p < z.places) × (z.next c p ≡ Link e)

-- how many feeders of e there are from channel t up to, and not including, c, going round
abbrev pub gap : Net → ℕ → ℕ → ℕ → ℕ
gap z e t c = cond (ltb c t) ((feeders z e (channels z) + feeders z e c) - feeders z e t) (feeders z e c - feeders z e t)

module _ (z : Net) (e : ℕ) where
  feeds_from : (c n p : ℕ) → p < n → z.next c p ≡ Link e → feeds z e c n ≡ true
  unfolding feeds
  feeds_from c zero p l q = absurd (omega arith)
  feeds_from c (suc n) p l q =
      ⊎_elim
      (λ (i : p ≡ n). or_left (is_to e (z.next c n)) (feeds z e c n)
      (ap (is_to e) (subst (λ (j : ℕ). z.next c j ≡ Link e) i q) ∙ eq-eqb e e refl))
      (λ (i : p ≡ n → ⊥). or_right (is_to e (z.next c n)) (feeds z e c n) (feeds_from c n p (omega arith) q)) (cases_eq p n)

  feeders_one : (c : ℕ) → Feeder z e c → feeders z e (c + 1) ≡ feeders z e c + 1
  unfolding feeders
  feeders_one c h =
      let j : feeders z e (c + 1) ≡ feeders z e (suc c) = ap (feeders z e) (add-one c) in
      let k : ◌≡◌ {A = ℕ} (cond (feeds z e c z.places) 1 0) 1 = cond-true (feeds z e c z.places) 1 0 (feeds_from c z.places h.0 h.1 h.2) in
      omega arith

  feeders_none : feeders z e 0 ≡ 0
  unfolding feeders
  feeders_none = refl

  feeders_more : (a b : ℕ) → a ≤ b → feeders z e a ≤ feeders z e b
  unfolding feeders
  feeders_more a zero l = let i : a ≡ 0 = omega arith in let k : feeders z e a ≡ feeders z e 0 = ap (feeders z e) i in omega arith
  feeders_more a (suc b) l =
      ⊎_elim (λ (i : a ≡ suc b). let k : feeders z e a ≡ feeders z e (suc b) = ap (feeders z e) i in omega arith)
      (λ (i : a ≡ suc b → ⊥). let k = feeders_more a b (omega arith) in omega arith) (cases_eq a (suc b))

  gap_on : (t c : ℕ) → t ≤ c → gap z e t c ≡ feeders z e c - feeders z e t
  gap_on t c l = cond-false (ltb c t) ((feeders z e (channels z) + feeders z e c) - feeders z e t) (feeders z e c - feeders z e t) (le-ltb c t l)

  gap_round : (t c : ℕ) → c < t → gap z e t c ≡ (feeders z e (channels z) + feeders z e c) - feeders z e t
  gap_round t c l = cond-true (ltb c t) ((feeders z e (channels z) + feeders z e c) - feeders z e t) (feeders z e c - feeders z e t) (lt-ltb c t l)

  following_on : (c : ℕ) → c + 1 < channels z → following z c ≡ c + 1
  following_on c l = cond-true (ltb (c + 1) (channels z)) (c + 1) 0 (lt-ltb (c + 1) (channels z) l)

  pub gap_most : (t c : ℕ) → t < channels z → c < channels z → Feeder z e c → gap z e t c + 1 ≤ feeders z e (channels z)
  gap_most t c k l h =
      let o = feeders_one c h in
      let m = feeders_more (c + 1) (channels z) (omega arith) in
      ⊎_elim
      (λ (i : c < t). let a = gap_round t c i in let b = feeders_more (c + 1) t (omega arith) in let d = feeders_more t (channels z) (omega arith) in omega arith)
      (λ (i : t ≤ c). let a = gap_on t c i in omega arith) (cases_lt c t)

  -- what was taken comes before c, and the turn is then after it
  pub gap_falls : (t a c near far : ℕ) → t < channels z → a < channels z → c < channels z → near < far → far < channels z →
      Away z t a near → Away z t c far → Feeder z e a → gap z e (following z a) c + 1 ≤ gap z e t c
  gap_falls t a c near far k l m n f (inl p) (inl q) h =
      let i : gap z e (following z a) c ≡ gap z e (a + 1) c = ap (λ (x : ℕ). gap z e x c) (following_on a (omega arith)) in
      let o = feeders_one a h in
      let u = gap_on (a + 1) c (omega arith) in
      let v = gap_on t c (omega arith) in
      let x = feeders_more t a (omega arith) in
      let y = feeders_more (a + 1) c (omega arith) in
      omega arith
  gap_falls t a c near far k l m n f (inl p) (inr q) h =
      let o = feeders_one a h in
      let v = gap_round t c (omega arith) in
      let x = feeders_more t a (omega arith) in
      let y = feeders_more (a + 1) (channels z) (omega arith) in
      cond_both (ltb (a + 1) (channels z)) (a + 1) 0 (λ g. gap z e g c + 1 ≤ gap z e t c)
      (λ w. let u = gap_round (a + 1) c (omega arith) in omega arith)
      (λ w. let u = gap_on 0 c (omega arith) in let b = feeders_none in omega arith)
  gap_falls t a c near far k l m n f (inr p) (inl q) h = absurd (omega arith)
  gap_falls t a c near far k l m n f (inr p) (inr q) h =
      let i : gap z e (following z a) c ≡ gap z e (a + 1) c = ap (λ (x : ℕ). gap z e x c) (following_on a (omega arith)) in
      let o = feeders_one a h in
      let u = gap_on (a + 1) c (omega arith) in
      let v = gap_round t c (omega arith) in
      let x = feeders_more t (channels z) (omega arith) in
      let y = feeders_more (a + 1) c (omega arith) in
      omega arith
