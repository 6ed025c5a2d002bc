-- A look round in two halves, from the turn to the last channel and then from 0 up to the turn. Assumes nothing.
use Rattle.std.proofs.Common.{◌≡◌, ℕ, zero, suc, ◌+◌, ◌-◌, ◌<◌, ◌≤◌, true, false, ltb, List, [], ◌∷◌, get_or, Some, None, refl, ap, ◌∙◌, arith}
use Rattle.std.proofs.lemmas.Bool.{cond-true, cond-false, lt-ltb, le-ltb}
use Rattle.net.specs.declared.Block.{Block}
use Rattle.net.specs.Net.{Net, channels}
use Rattle.machine.specs.Round.{look, wants, following}

-- none of the channels from a up to b wants to go to e
abbrev pub Quiet : Net → ℕ → (ℕ → List Block) → ℕ → ℕ → Type 0
Quiet z e q a b = (k : ℕ) → a ≤ k → k < b → wants z e k (q k) ≡ false

module _ (z : Net) (e : ℕ) (q : ℕ → List Block) where
  here : (c k : ℕ) → wants z e c (q c) ≡ true → look z e q c (suc k) ≡ Some c
  unfolding look
  here c k t = cond-true (wants z e c (q c)) (Some c) (look z e q (following z c) k) t

  on : (c k d : ℕ) → wants z e c (q c) ≡ false → following z c ≡ d → look z e q c (suc k) ≡ look z e q d k
  unfolding look
  on c k d f g = cond-false (wants z e c (q c)) (Some c) (look z e q (following z c) k) f ∙ ap (λ (a : ℕ). look z e q a k) g

  next_up : (c : ℕ) → c + 1 < channels z → following z c ≡ c + 1
  next_up c h = cond-true (ltb (c + 1) (channels z)) (c + 1) 0 (lt-ltb (c + 1) (channels z) h)

  next_round : (c : ℕ) → channels z ≤ c + 1 → following z c ≡ 0
  next_round c h = cond-false (ltb (c + 1) (channels z)) (c + 1) 0 (le-ltb (c + 1) (channels z) h)

  -- quiet channels are passed over
  past : (j c k m n : ℕ) → m ≡ c + j → n ≡ j + k → m < channels z → Quiet z e q c m → look z e q c n ≡ look z e q m k
  past zero c k m n p r h f =
      let a : c ≡ m = omega arith in
      let b : n ≡ k = omega arith in
      ap (λ (i : ℕ). look z e q c i) b ∙ ap (λ (i : ℕ). look z e q i k) a
  past (suc j) c k m n p r h f =
      let b : n ≡ suc (j + k) = omega arith in
      ap (λ (i : ℕ). look z e q c i) b ∙
      on c (j + k) (c + 1) (f c (omega arith) (omega arith)) (next_up c (omega arith)) ∙
      past j (c + 1) k m (j + k) (omega arith) refl h (λ i l u. f i (omega arith) u)

  round_to_0 : (t n : ℕ) → n ≡ channels z → t < n → Quiet z e q t n → look z e q t n ≡ look z e q 0 t
  round_to_0 t n s h f =
      let m = n - 1 in
      past (m - t) t (suc t) m n (omega arith) (omega arith) (omega arith) (λ i l u. f i l (omega arith)) ∙
      on m t 0 (f m (omega arith) (omega arith)) (next_round m (omega arith))

  pub first_half : (t n c : ℕ) → n ≡ channels z → t ≤ c → c < n → Quiet z e q t c → wants z e c (q c) ≡ true → look z e q t n ≡ Some c
  first_half t n c s l h f w =
      past (c - t) t (suc (n - (c - t) - 1)) c n (omega arith) (omega arith) (omega arith) f ∙ here c (n - (c - t) - 1) w

  pub second_half : (t n c : ℕ) → n ≡ channels z → t < n → c < t → Quiet z e q t n → Quiet z e q 0 c → wants z e c (q c) ≡ true → look z e q t n ≡ Some c
  second_half t n c s l h f g w =
      round_to_0 t n s l f ∙ past c 0 (suc (t - c - 1)) c t (omega arith) (omega arith) (omega arith) g ∙ here c (t - c - 1) w

  pub no_half : (t n : ℕ) → n ≡ channels z → t < n → Quiet z e q t n → Quiet z e q 0 t → look z e q t n ≡ None
  unfolding look
  no_half t n s l f g = round_to_0 t n s l f ∙ past t 0 0 t t (omega arith) (omega arith) (omega arith) g

  -- c stands in half i
  abbrev half : ℕ → ℕ → ℕ → ℕ × ℕ
  half t n i = get_or ((t, n) ∷ (0, t) ∷ []) i (0, 0)

  pub in_half : (t n c i : ℕ) → n ≡ channels z → t < n → (half t n i).0 ≤ c → c < (half t n i).1 →
      Quiet z e q (half t n i).0 c → (0 < i → Quiet z e q t (channels z)) → wants z e c (q c) ≡ true → look z e q t (channels z) ≡ Some c
  in_half t n c zero s l h u f g w = first_half t (channels z) c refl h (omega arith) f w
  in_half t n c (suc zero) s l h u f g w = second_half t (channels z) c refl (omega arith) u (g (omega arith)) f w
  in_half t n c (suc (suc i)) s l h u f g w = absurd (omega arith)
