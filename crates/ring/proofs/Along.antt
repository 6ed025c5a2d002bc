-- Ways over a relation: how they join and split, and that a way without a ring in it repeats no member. Assumes nothing.
use Rattle.std.proofs.Common.{◌≡◌, ℕ, zero, suc, ◌<◌, ◌⊎◌, List, [], ◌∷◌, ◌++◌, take, sym, subst, inl, inr}
use Rattle.std.specs.List.{AllByRecursion}
use Rattle.std.proofs.ByRecursion.{All-take}
use Rattle.std.proofs.lemmas.Bool.{cases_eq}
use Rattle.ring.specs.Ring.{Along, Differ, Ring}

pub differ_take : (j : ℕ) (xs : List ℕ) → Differ xs → Differ (take j xs)
differ_take zero xs d = tt
differ_take (suc j) [] d = tt
differ_take (suc j) (x ∷ xs) d = (All-take (λ e. x ≡ e → ⊥) j xs d.0, differ_take j xs d.1)

module _ (H : ℕ → ℕ → Type 0) where
  pub along_join : (x : ℕ) (us : List ℕ) (m : ℕ) (ws : List ℕ) (y : ℕ) → Along H x us m → Along H m ws y → Along H x (us ++ (m ∷ ws)) y
  along_join x [] m ws y h k = (h, k)
  along_join x (u ∷ us) m ws y h k = (h.0, along_join u us m ws y h.1 k)

  pub along_split : (x : ℕ) (us : List ℕ) (m : ℕ) (ws : List ℕ) (y : ℕ) → Along H x (us ++ (m ∷ ws)) y → Along H x us m × Along H m ws y
  along_split x [] m ws y h = (h.0, h.1)
  along_split x (u ∷ us) m ws y h =
      let r = along_split u us m ws y h.1 in
      ((h.0, r.0), r.1)

  -- every member hands blocks to some channel
  pub along_below : (n : ℕ) → ((x y : ℕ) → H x y → x < n) → (x : ℕ) (es : List ℕ) (y : ℕ) → Along H x es y → AllByRecursion (λ e. e < n) (x ∷ es)
  along_below n b x [] y h = (b x y h, tt)
  along_below n b x (e ∷ es) y h = (b x e h.0, along_below n b e es y h.1)

  -- a way from p that does not meet z, or its part up to where it first does
  pub turn : (z p : ℕ) (xs : List ℕ) (w : ℕ) → Along H p xs w → AllByRecursion (λ e. z ≡ e → ⊥) xs ⊎ ((j : ℕ) × Along H p (take j xs) z × AllByRecursion (λ e. z ≡ e → ⊥) (take j xs))
  turn z p [] w a = inl tt
  turn z p (x ∷ xs) w a = go (cases_eq z x) (turn z x xs w a.1)
    where
      go : (z ≡ x) ⊎ (z ≡ x → ⊥) → AllByRecursion (λ e. z ≡ e → ⊥) xs ⊎ ((j : ℕ) × Along H x (take j xs) z × AllByRecursion (λ e. z ≡ e → ⊥) (take j xs)) → AllByRecursion (λ e. z ≡ e → ⊥) (x ∷ xs) ⊎ ((j : ℕ) × Along H p (take j (x ∷ xs)) z × AllByRecursion (λ e. z ≡ e → ⊥) (take j (x ∷ xs)))
      go (inl q) r = inr (0, subst (λ (v : ℕ). H p v) (sym q) a.0, tt)
      go (inr d) (inl r) = inl (d, r)
      go (inr d) (inr r) = inr (suc r.0, (a.0, r.1), (d, r.2))

  -- a way repeats no member, or there is a ring
  pub simple : (z : ℕ) (xs : List ℕ) (w : ℕ) → Along H z xs w → Differ (z ∷ xs) ⊎ ((cs : List ℕ) × Ring H cs)
  simple z [] w a = inl (tt, tt)
  simple z (x ∷ xs) w a = go (simple x xs w a.1) (turn z z (x ∷ xs) w a)
    where
      go : Differ (x ∷ xs) ⊎ ((cs : List ℕ) × Ring H cs) → AllByRecursion (λ e. z ≡ e → ⊥) (x ∷ xs) ⊎ ((j : ℕ) × Along H z (take j (x ∷ xs)) z × AllByRecursion (λ e. z ≡ e → ⊥) (take j (x ∷ xs))) → Differ (z ∷ (x ∷ xs)) ⊎ ((cs : List ℕ) × Ring H cs)
      go (inr r) t = inr r
      go (inl d) (inl t) = inl (t, d)
      go (inl d) (inr t) = inr (z ∷ take t.0 (x ∷ xs), (t.1, (t.2, differ_take t.0 (x ∷ xs) d)))
