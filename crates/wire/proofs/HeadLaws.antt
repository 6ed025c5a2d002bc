-- Heads of files: what an accepted one says of the bytes, and what a cut leaves of it. Assumes nothing.
use Rattle.std.proofs.Common.{◌≡◌, ℕ, ◌+◌, ◌-◌, ◌*◌, ◌/◌, ◌<◌, ◌≤◌, true, eqb, ltb, leb, ◌⊎◌, List, [], ◌∷◌, length, get_or, take, drop, Some, None, Ok, Option, Result, refl, ◌∙◌, inl, inr, arith}
use Rattle.std.proofs.lemmas.List.{get_or-take, length-take-le}
use Rattle.std.proofs.lemmas.Bool.{cond_both, cond-true, cond-false, eqb-true, eqb-false, ltb-true, ltb-false, leb-true, lt-ltb, le-ltb, le-leb, eq-eqb, ne_eqb, and_parts, and_from, cases_lt}
use Rattle.wire.specs.declared.fault.Fault.{Fault}
use Rattle.wire.specs.declared.fault.Fault.TheVariants.{Cut}
use Rattle.wire.specs.Heads.{within, beginning, unless}
use Rattle.wire.specs.Laws.{begin_of}
use Rattle.wire.proofs.PairLaws.{wrong}

pub some_none : {A : Type 0} (B : Type 0) (x : A) → Some x ≡ None → B
some_none B x q = let z : ◌≡◌ {A = ℕ} 0 1 = cc in absurd (omega arith)

-- the first bytes of a file of this kind
pub record Begun (kind size : ℕ) (bs : List ℕ) : Type 0 where
  pub any : 0 < length bs
  pub is : get_or bs 0 0 ≡ kind
  pub long : size ≤ length bs

pub begun : (kind size : ℕ) (bs : List ℕ) → beginning kind size bs ≡ None → Begun kind size bs
begun kind size bs =
    cond_both (eqb (length bs) 0) _ _ (λ (o : Option Fault). o ≡ None → Begun kind size bs)
    (λ _ q. some_none _ _ q)
    (λ e.
    cond_both (eqb (get_or bs 0 0) kind) _ _ (λ (o : Option Fault). o ≡ None → Begun kind size bs)
    (λ f.
    cond_both (ltb (length bs) size) _ _ (λ (o : Option Fault). o ≡ None → Begun kind size bs)
    (λ _ q. some_none _ _ q)
    (λ g q.
    let ne : length bs ≡ 0 → ⊥ = eqb-false (length bs) 0 e in
    record { any = omega (arith, ne); is = eqb-true _ _ f; long = ltb-false _ _ g }))
    (λ _ q. some_none _ _ q))

pub begins_well : (kind size : ℕ) (bs : List ℕ) → Begun kind size bs → beginning kind size bs ≡ None
begins_well kind size bs b =
    cond-false (eqb (length bs) 0) _ _ (ne_eqb _ _ (λ e. omega (arith, b.any)))
    ∙ (cond-true (eqb (get_or bs 0 0) kind) _ _ (eq-eqb _ _ b.is)
    ∙ cond-false (ltb (length bs) size) _ _ (le-ltb _ _ b.long))

-- a cut inside of the head
pub begins_cut : (kind size : ℕ) (bs : List ℕ) (k : ℕ) → Begun kind size bs → k < size
    → beginning kind size (take k bs) ≡ Some Cut
begins_cut kind size bs k b h =
    go (cases_lt 0 k)
  where
    l : length (take k bs) ≡ k
    l = length-take-le k bs (omega (arith, b.long))

    go : (0 < k) ⊎ (k ≤ 0) → beginning kind size (take k bs) ≡ Some Cut
    go (inl some) =
        cond-false (eqb (length (take k bs)) 0) _ _ (ne_eqb _ _ (λ e. omega (arith, l)))
        ∙ (cond-true (eqb (get_or (take k bs) 0 0) kind) _ _ (eq-eqb _ _ (get_or-take k bs 0 0 some ∙ b.is))
        ∙ cond-true (ltb (length (take k bs)) size) _ _ (lt-ltb _ _ (omega (arith, l))))
    go (inr none) = cond-true (eqb (length (take k bs)) 0) _ _ (eq-eqb _ _ (omega (arith, l)))

-- a cut after the head
pub begins_still : (kind size : ℕ) (bs : List ℕ) (k : ℕ) → Begun kind size bs → 0 < size → size ≤ k → k ≤ length bs
    → Begun kind size (take k bs)
begins_still kind size bs k b s h g =
    let l : length (take k bs) ≡ k = length-take-le k bs g in
    record {
      any = omega (arith, l);
      is = get_or-take k bs 0 0 (omega arith) ∙ b.is;
      long = omega (arith, l);
    }

pub record Fine {A : Type 0} (o : Option Fault) (r : Result A Fault) (x : A) : Type 0 where
  pub none : o ≡ None
  pub value : r ≡ Ok x

pub unless_ok : {A : Type 0} (o : Option Fault) (r : Result A Fault) (x : A) → unless o r ≡ Ok x → Fine o r x
unless_ok (Some f) r x q = wrong _ f x q
unless_ok None r x q = record { none = refl; value = q }

pub within_true : (limit n : ℕ) → within limit n ≡ true → (0 < n) × (n ≤ limit)
within_true limit n e =
    let p = and_parts (ltb 0 n) (leb n limit) e in
    (ltb-true 0 n p.0, leb-true n limit p.1)

pub within_fine : (limit n : ℕ) → 0 < n → n ≤ limit → within limit n ≡ true
within_fine limit n h k = and_from (ltb 0 n) (leb n limit) (lt-ltb 0 n h) (le-leb n limit k)

pub begin_head : (head k : ℕ) → k < head → begin_of head k ≡ 0
begin_head head k h = cond-true (ltb k head) _ _ (lt-ltb k head h)

pub begin_after : (head k : ℕ) → head ≤ k → begin_of head k ≡ head + 2 * ((k - head) / 2)
begin_after head k h = cond-false (ltb k head) _ _ (le-ltb k head h)

pub five : (bs : List ℕ) → 5 ≤ length bs
    → bs ≡ get_or bs 0 0 ∷ get_or bs 1 0 ∷ get_or bs 2 0 ∷ get_or bs 3 0 ∷ get_or bs 4 0 ∷ drop 5 bs
five [] h = absurd (omega arith)
five (a ∷ []) h = absurd (omega arith)
five (a ∷ b ∷ []) h = absurd (omega arith)
five (a ∷ b ∷ c ∷ []) h = absurd (omega arith)
five (a ∷ b ∷ c ∷ d ∷ []) h = absurd (omega arith)
five (a ∷ b ∷ c ∷ d ∷ e ∷ bs) h = refl

pub four : (bs : List ℕ) → 4 ≤ length bs
    → bs ≡ get_or bs 0 0 ∷ get_or bs 1 0 ∷ get_or bs 2 0 ∷ get_or bs 3 0 ∷ drop 4 bs
four [] h = absurd (omega arith)
four (a ∷ []) h = absurd (omega arith)
four (a ∷ b ∷ []) h = absurd (omega arith)
four (a ∷ b ∷ c ∷ []) h = absurd (omega arith)
four (a ∷ b ∷ c ∷ d ∷ bs) h = refl
