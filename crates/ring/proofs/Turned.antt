-- A ring can be written from its lowest member on, with as many members. Assumes nothing.
use Rattle.std.proofs.Common.{◌≡◌, ℕ, ◌+◌, ◌<◌, ◌≤◌, ◌⊎◌, List, [], ◌∷◌, ◌++◌, length, sym, refl, ap, subst, inl, inr, arith, length-append}
use Rattle.std.specs.List.{AllByRecursion}
use Rattle.std.proofs.ByRecursion.{All-weaker, All-append}
use Rattle.std.proofs.lemmas.Bool.{cases_lt}
use Rattle.ring.specs.Ring.{Along}
use Rattle.ring.specs.Layers.{Back}
use Rattle.ring.proofs.Along.{along_join, along_split}

-- where a list has its lowest member, if that is below x
record Low (x : ℕ) (es : List ℕ) : Type 0 where
  us : List ℕ
  m : ℕ
  ws : List ℕ
  is : es ≡ us ++ (m ∷ ws)
  less : m < x
  before : AllByRecursion (λ e. m ≤ e) us
  behind : AllByRecursion (λ e. m ≤ e) ws

weaker : (a b : ℕ) (es : List ℕ) → a ≤ b → AllByRecursion (λ e. b ≤ e) es → AllByRecursion (λ e. a ≤ e) es
weaker a b es h l = All-weaker (λ (e : ℕ). b ≤ e) (λ (e : ℕ). a ≤ e) (λ e k. omega arith) es l

low : (x : ℕ) (es : List ℕ) → AllByRecursion (λ e. x ≤ e) es ⊎ Low x es
low x [] = inl tt
low x (e ∷ es) = go (low x es)
  where
    at : e < x → AllByRecursion (λ k. e ≤ k) es → Low x (e ∷ es)
    at h l = record { us = []; m = e; ws = es; is = refl; less = h; before = tt; behind = l }

    further : (l : Low x es) → (e < l.m) ⊎ (l.m ≤ e) → AllByRecursion (λ e. x ≤ e) (e ∷ es) ⊎ Low x (e ∷ es)
    further l (inl h) =
        let k = l.less in
        let us = weaker e l.m l.us (omega arith) l.before in
        let ws = weaker e l.m l.ws (omega arith) l.behind in
        inr (at (omega arith) (subst (λ (xs : List ℕ). AllByRecursion (λ (k : ℕ). e ≤ k) xs) (sym l.is) (All-append (λ (k : ℕ). e ≤ k) l.us (l.m ∷ l.ws) us (omega arith, ws))))
    further l (inr h) =
        inr record { us = e ∷ l.us; m = l.m; ws = l.ws; is = ap (λ (xs : List ℕ). e ∷ xs) l.is; less = l.less; before = (h, l.before); behind = l.behind }

    go : AllByRecursion (λ k. x ≤ k) es ⊎ Low x es → AllByRecursion (λ e. x ≤ e) (e ∷ es) ⊎ Low x (e ∷ es)
    go (inl l) = here (cases_lt e x)
      where
        here : (e < x) ⊎ (x ≤ e) → AllByRecursion (λ e. x ≤ e) (e ∷ es) ⊎ Low x (e ∷ es)
        here (inl h) = inr (at h (weaker e x es (omega arith) l))
        here (inr h) = inl (h, l)
    go (inr l) = further l (cases_lt e l.m)

module _ (H : ℕ → ℕ → Type 0) where
  pub turned : (x : ℕ) (es : List ℕ) → Along H x es x → (m : ℕ) × Back H m m (length es + 1)
  turned x es a = go (low x es)
    where
      go : AllByRecursion (λ e. x ≤ e) es ⊎ Low x es → (m : ℕ) × Back H m m (length es + 1)
      go (inl l) = (x, record { over = es; along = a; size = refl; from = omega arith; high = l })
      go (inr l) =
          let s : Along H x l.us l.m × Along H l.m l.ws x = along_split H x l.us l.m l.ws x (subst (λ (xs : List ℕ). Along H x xs x) l.is a) in
          let j = l.less in
          let size : length (l.ws ++ (x ∷ l.us)) + 1 ≡ length es + 1 =
          let p = length-append l.ws (x ∷ l.us) in
          let q = length-append l.us (l.m ∷ l.ws) in
          let r = ap length l.is in
          omega arith in (
            l.m,
            record {
              over = l.ws ++ (x ∷ l.us);
              along = along_join H l.m l.ws x l.us l.m s.1 s.0;
              size = size;
              from = omega arith;
              high = All-append (λ (k : ℕ). l.m ≤ k) l.ws (x ∷ l.us) l.behind (omega arith, l.before);
            },
          )
