-- Rows of things of two bytes: what is accepted is the encoding, and a cut is refused. Assumes what each law names.
use Rattle.std.proofs.Common.{◌≡◌, ℕ, zero, suc, ◌+◌, ◌*◌, ◌/◌, ◌<◌, List, [], ◌∷◌, length, get_or, take, drop, Ok, Err, Result, refl, ap, ◌∙◌, subst, arith}
use Rattle.wire.specs.declared.fault.Fault.{Fault}
use Rattle.wire.specs.declared.fault.Fault.TheVariants.{Cut}
use Rattle.wire.specs.declared.fault.Refusal.{Refusal}
use Rattle.wire.specs.Faults.{refusal}
use Rattle.wire.specs.Pairs.{Each, Bytes, placed, after, pairs, pair_bytes}

pub wrong : {A E : Type 0} (B : Type 0) (e : E) (x : A) → Err e ≡ Ok x → B
wrong B e x q = let z : ◌≡◌ {A = ℕ} 0 1 = cc in absurd (omega arith)

pub each_at : {A : Type 0} (P : A → Type 0) (xs : List A) (k : ℕ) (d : A) → Each P xs → k < length xs → P (get_or xs k d)
each_at P [] k d ps h = absurd (omega arith)
each_at P (x ∷ xs) zero d ps h = ps.0
each_at P (x ∷ xs) (suc k) d ps h = each_at P xs k d ps.1 (omega arith)

pub each_drop : {A : Type 0} (P : A → Type 0) (k : ℕ) (xs : List A) → Each P xs → Each P (drop k xs)
each_drop P zero xs ps = ps
each_drop P (suc k) [] ps = tt
each_drop P (suc k) (x ∷ xs) ps = each_drop P k xs ps.1

-- a row that is accepted has a first thing and more
pub record Opened {A : Type 0} (r : Result A Fault) (s : Result (List A) Refusal) (xs : List A) : Type 0 where
  pub first : A
  pub rest : List A
  pub is_first : r ≡ Ok first
  pub is_rest : s ≡ Ok rest
  pub is_all : first ∷ rest ≡ xs

pub opened : {A : Type 0} (at : ℕ) (r : Result A Fault) (s : Result (List A) Refusal) (xs : List A)
    → after (placed at r) s ≡ Ok xs → Opened r s xs
opened at (Err f) s xs q = wrong _ (refusal f at) xs q
opened at (Ok x) (Err e) xs q = wrong _ e xs q
opened at (Ok x) (Ok ys) xs q =
    let e : x ∷ ys ≡ xs = cc in
    record { first = x; rest = ys; is_first = refl; is_rest = refl; is_all = e }

pub pairs_bytes : {A : Type 0} (made : ℕ → ℕ → Result A Fault) (high low : A → ℕ)
    → ((a b : ℕ) (x : A) → a < 256 → b < 256 → made a b ≡ Ok x → (high x ≡ a) × (low x ≡ b))
    → (n at : ℕ) (bs : List ℕ) (xs : List A) → Bytes bs → pairs made n at bs ≡ Ok xs → pair_bytes high low xs ≡ bs
pairs_bytes made high low one zero at [] xs small q =
    let e : [] ≡ xs = cc in
    subst (λ (ys : List _). pair_bytes high low ys ≡ []) e refl
pairs_bytes made high low one zero at (b ∷ bs) xs small q = wrong _ _ xs q
pairs_bytes made high low one (suc n) at [] xs small q = wrong _ _ xs q
pairs_bytes made high low one (suc n) at (a ∷ []) xs small q = wrong _ _ xs q
pairs_bytes made high low one (suc n) at (a ∷ b ∷ rest) xs small q =
    let o : Opened (made a b) (pairs made n (at + 2) rest) xs = opened at (made a b) (pairs made n (at + 2) rest) xs q in
    let w : pair_bytes high low o.rest ≡ rest =
    pairs_bytes made high low one n (at + 2) rest o.rest small.1.1 o.is_rest in
    let f : (high o.first ≡ a) × (low o.first ≡ b) =
    one a b o.first small.0 small.1.0 o.is_first in
    let f0 : high o.first ≡ a = f.0 in
    let f1 : low o.first ≡ b = f.1 in
    let all : pair_bytes high low (o.first ∷ o.rest) ≡ a ∷ b ∷ rest = cc in
    subst (λ (ys : List _). pair_bytes high low ys ≡ a ∷ b ∷ rest) o.is_all all

-- the row holds as many things as it should, and each is one that can be made
pub record Filled {A : Type 0} (P : A → Type 0) (n : ℕ) (xs : List A) : Type 0 where
  pub count : length xs ≡ n
  pub each : Each P xs

pub pairs_each : {A : Type 0} (made : ℕ → ℕ → Result A Fault) (P : A → Type 0)
    → ((a b : ℕ) (x : A) → made a b ≡ Ok x → P x)
    → (n at : ℕ) (bs : List ℕ) (xs : List A) → pairs made n at bs ≡ Ok xs → Filled P n xs
pairs_each made P one zero at [] xs q =
    let e : [] ≡ xs = cc in
    subst (λ (ys : List _). Filled P 0 ys) e (record { count = refl; each = tt })
pairs_each made P one zero at (b ∷ bs) xs q = wrong _ _ xs q
pairs_each made P one (suc n) at [] xs q = wrong _ _ xs q
pairs_each made P one (suc n) at (a ∷ []) xs q = wrong _ _ xs q
pairs_each made P one (suc n) at (a ∷ b ∷ rest) xs q =
    let o : Opened (made a b) (pairs made n (at + 2) rest) xs = opened at (made a b) (pairs made n (at + 2) rest) xs q in
    let w : Filled P n o.rest = pairs_each made P one n (at + 2) rest o.rest o.is_rest in
    subst (λ (ys : List _). Filled P (suc n) ys) o.is_all
    (record { count = ap suc w.count; each = (one a b o.first o.is_first, w.each) })

pub pairs_back : {A : Type 0} (made : ℕ → ℕ → Result A Fault) (high low : A → ℕ) (P : A → Type 0)
    → ((x : A) → P x → made (high x) (low x) ≡ Ok x)
    → (at : ℕ) (xs : List A) → Each P xs → pairs made (length xs) at (pair_bytes high low xs) ≡ Ok xs
pairs_back made high low P one at [] ps = refl
pairs_back made high low P one at (x ∷ xs) ps =
    ap (λ (r : Result _ Fault). after (placed at r) (pairs made (length xs) (at + 2) (pair_bytes high low xs)))
    (one x ps.0)
    ∙ ap (λ (s : Result (List _) Refusal). after (Ok x) s) (pairs_back made high low P one (at + 2) xs ps.1)

pub pairs_cut : {A : Type 0} (made : ℕ → ℕ → Result A Fault) (n at : ℕ) (bs : List ℕ) (xs : List A) (k : ℕ)
    → pairs made n at bs ≡ Ok xs → k < length bs
    → pairs made n at (take k bs) ≡ Err (refusal Cut (at + 2 * (k / 2)))
pairs_cut made zero at [] xs k q h = absurd (omega arith)
pairs_cut made zero at (b ∷ bs) xs k q h = wrong _ _ xs q
pairs_cut made (suc n) at [] xs k q h = absurd (omega arith)
pairs_cut made (suc n) at (a ∷ []) xs k q h = wrong _ _ xs q
pairs_cut made (suc n) at (a ∷ b ∷ rest) xs zero q h =
    let e : at ≡ at + 2 * (0 / 2) = omega arith in
    ap (λ (m : ℕ). Err (refusal Cut m)) e
pairs_cut made (suc n) at (a ∷ b ∷ rest) xs (suc zero) q h =
    let e : at ≡ at + 2 * (1 / 2) = omega arith in
    ap (λ (m : ℕ). Err (refusal Cut m)) e
pairs_cut made (suc n) at (a ∷ b ∷ rest) xs (suc (suc j)) q h =
    let o : Opened (made a b) (pairs made n (at + 2) rest) xs = opened at (made a b) (pairs made n (at + 2) rest) xs q in
    let i : pairs made n (at + 2) (take j rest) ≡ Err (refusal Cut (at + 2 + 2 * (j / 2))) =
    pairs_cut made n (at + 2) rest o.rest j o.is_rest (omega arith) in
    let e : at + 2 + 2 * (j / 2) ≡ at + 2 * (suc (suc j) / 2) = omega arith in
    ap (λ (r : Result _ Fault). after (placed at r) (pairs made n (at + 2) (take j rest))) o.is_first
    ∙ (ap (λ (s : Result (List _) Refusal). after (Ok o.first) s) i ∙ ap (λ (m : ℕ). Err (refusal Cut m)) e)
