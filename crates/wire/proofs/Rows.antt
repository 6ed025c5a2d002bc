-- Rows of things of two bytes: what a loop that reads them keeps true. Assumes nothing.
use Rattle.std.proofs.Common.{◌≡◌, ℕ, zero, suc, ◌+◌, ◌-◌, ◌*◌, ◌/◌, ◌<◌, ◌≤◌, min, ◌⊎◌, List, [], ◌∷◌, ◌++◌, length, get_or, take, drop, Ok, Err, Result, sym, refl, ap, ◌∙◌, inl, inr, arith}
use Rattle.std.proofs.lemmas.List.{append-nil, append_assoc, length-append, drop_more, drop_all, drop-drop, get_or-take, length-take}
use Rattle.std.proofs.lemmas.Bool.{cases_lt}
use Rattle.std.specs.Simd.{first_chunks}
use Rattle.wire.specs.declared.fault.Fault.{Fault}
use Rattle.wire.specs.declared.fault.Fault.TheVariants.{Cut, Extra}
use Rattle.wire.specs.declared.fault.Refusal.{Refusal}
use Rattle.wire.specs.Faults.{refusal}
use Rattle.wire.specs.Pairs.{placed, after, pair_at, pairs}

pub pair_whole : {A : Type 0} (made : ℕ → ℕ → Result A Fault) (at k : ℕ) (bs : List ℕ) → k + 2 ≤ length bs
    → pair_at made at (drop k bs) ≡ placed at (made (get_or bs k 0) (get_or bs (k + 1) 0))
pair_whole made at k bs h =
    ap (pair_at made at)
    (drop_more bs k 0 (omega arith) ∙ ap (λ (r : List ℕ). get_or bs k 0 ∷ r) (drop_more bs (k + 1) 0 (omega arith)))

pub pair_cut : {A : Type 0} (made : ℕ → ℕ → Result A Fault) (at k : ℕ) (bs : List ℕ) → length bs < k + 2
    → pair_at made at (drop k bs) ≡ Err (refusal Cut at)
pair_cut {A} made at k bs h =
    go (cases_lt k (length bs))
  where
    go : (k < length bs) ⊎ (length bs ≤ k) → pair_at made at (drop k bs) ≡ Err (refusal Cut at)
    go (inl l) =
        ap (pair_at made at)
        (drop_more bs k 0 l ∙ ap (λ (r : List ℕ). get_or bs k 0 ∷ r) (drop_all (k + 1) bs (omega arith)))
    go (inr l) = ap (pair_at made at) (drop_all k bs l)

pub length_chunks : (n : ℕ) (bs : List ℕ) → length (first_chunks 2 n bs) ≡ n
length_chunks zero bs = refl
length_chunks (suc n) bs = ap suc (length_chunks n (drop 2 bs))

pub chunk_reads : (n : ℕ) (bs : List ℕ) (i : ℕ) (d : List ℕ) → i < n → 2 * n ≤ length bs
    → get_or (first_chunks 2 n bs) i d ≡ get_or bs (2 * i) 0 ∷ get_or bs (2 * i + 1) 0 ∷ []
chunk_reads zero bs i d h l = absurd (omega arith)
chunk_reads (suc n) [] i d h l = absurd (omega arith)
chunk_reads (suc n) (a ∷ []) i d h l = absurd (omega arith)
chunk_reads (suc n) (a ∷ b ∷ bs) zero d h l = refl
chunk_reads (suc n) (a ∷ b ∷ bs) (suc i) d h l =
    let e0 : suc (suc (2 * i)) ≡ 2 * suc i = omega arith in
    let e1 : suc (suc (2 * i + 1)) ≡ 2 * suc i + 1 = omega arith in
    chunk_reads n bs i d (omega arith) (omega arith)
    ∙ (ap (λ (k : ℕ). get_or (a ∷ b ∷ bs) k 0 ∷ get_or bs (2 * i + 1) 0 ∷ []) e0
    ∙ ap (λ (k : ℕ). get_or (a ∷ b ∷ bs) (2 * suc i) 0 ∷ get_or (a ∷ b ∷ bs) k 0 ∷ []) e1)

-- the bytes two by two
abbrev pub chunks : List ℕ → List (List ℕ)
chunks bs = first_chunks 2 (length bs / 2) bs

pub length_taken : (n : ℕ) (bs : List ℕ) → length (take n (chunks bs)) ≡ min n (length bs / 2)
length_taken n bs = length-take n (chunks bs) ∙ ap (min n) (length_chunks (length bs / 2) bs)

-- one of the first n chunks is the thing that begins there
pub chunk_at : {A : Type 0} (made : ℕ → ℕ → Result A Fault) (at n i : ℕ) (bs x : List ℕ)
    → i < length (take n (chunks bs)) → x ≡ get_or (take n (chunks bs)) i x
    → pair_at made at (drop (2 * i) bs) ≡ placed at (made (get_or x 0 0) (get_or x 1 0))
chunk_at made at n i bs x h q =
    let l : length (take n (chunks bs)) ≡ min n (length bs / 2) = length_taken n bs in
    let ln : i < n = omega (arith, h, l) in
    let lm : i < length bs / 2 = omega (arith, h, l) in
    let e : x ≡ get_or bs (2 * i) 0 ∷ get_or bs (2 * i + 1) 0 ∷ [] =
    q ∙ (get_or-take n (chunks bs) i x ln ∙ chunk_reads (length bs / 2) bs i x lm (omega arith)) in
    let e0 : get_or bs (2 * i) 0 ≡ get_or x 0 0 = sym (ap (λ (xs : List ℕ). get_or xs 0 0) e) in
    let e1 : get_or bs (2 * i + 1) 0 ≡ get_or x 1 0 = sym (ap (λ (xs : List ℕ). get_or xs 1 0) e) in
    pair_whole made at (2 * i) bs (omega arith)
    ∙ (ap (λ (b : ℕ). placed at (made b (get_or bs (2 * i + 1) 0))) e0
    ∙ ap (λ (b : ℕ). placed at (made (get_or x 0 0) b)) e1)

-- values that were read, in front of what is left
abbrev pub before : {A : Type 0} → List A → Result (List A) Refusal → Result (List A) Refusal
before xs (Ok ys) = Ok (xs ++ ys)
before xs (Err e) = Err e

pub before_none : {A : Type 0} (r : Result (List A) Refusal) → before [] r ≡ r
before_none (Ok ys) = refl
before_none (Err e) = refl

pub before_more : {A : Type 0} (xs : List A) (x : A) (r : Result (List A) Refusal)
    → before xs (after (Ok x) r) ≡ before (xs ++ x ∷ []) r
before_more xs x (Ok ys) = ap (λ (zs : List _). Ok zs) (sym (append_assoc xs (x ∷ []) ys))
before_more xs x (Err e) = refl

-- what is left to read after i of n things, where the first began at `start`
abbrev pub left : {A : Type 0} → (ℕ → ℕ → Result A Fault) → ℕ → ℕ → ℕ → List ℕ → Result (List A) Refusal
left made start n i bs = pairs made (n - i) (start + 2 * i) (drop (2 * i) bs)

pub left_more : {A : Type 0} (made : ℕ → ℕ → Result A Fault) (start n i : ℕ) (bs : List ℕ) → i < n
    → left made start n i bs
    ≡ after (pair_at made (start + 2 * i) (drop (2 * i) bs)) (left made start n (i + 1) bs)
left_more made start n i bs h =
    let at : ℕ = start + 2 * i in
    let on : ℕ = start + 2 * (i + 1) in
    let k : ℕ = n - (i + 1) in
    let e : n - i ≡ suc k = omega arith in
    let a : at + 2 ≡ on = omega arith in
    let b : 2 * i + 2 ≡ 2 * (i + 1) = omega arith in
    let d : drop 2 (drop (2 * i) bs) ≡ drop (2 * (i + 1)) bs = drop-drop 2 (2 * i) bs ∙ ap (λ (m : ℕ). drop m bs) b in
    ap (λ (m : ℕ). pairs made m at (drop (2 * i) bs)) e
    ∙ ap (λ (r : Result (List _) Refusal). after (pair_at made at (drop (2 * i) bs)) r)
    (ap (λ (m : ℕ). pairs made k m (drop 2 (drop (2 * i) bs))) a ∙ ap (λ (l : List ℕ). pairs made k on l) d)

-- after i of n things: those in hand, in front of what is left, are the whole
abbrev pub Reading : {A : Type 0} → (ℕ → ℕ → Result A Fault) → ℕ → ℕ → ℕ → List ℕ → List A → Type 0
Reading made start n i bs xs = before xs (left made start n i bs) ≡ pairs made n start bs

pub reading_more : {A : Type 0} (made : ℕ → ℕ → Result A Fault) (start n i : ℕ) (bs : List ℕ) (xs : List A) (x : A)
    → i < n → Reading made start n i bs xs → Ok x ≡ pair_at made (start + 2 * i) (drop (2 * i) bs)
    → Reading made start n (i + 1) bs (xs ++ x ∷ [])
reading_more made start n i bs xs x h inv p =
    let more : Result (List _) Refusal = left made start n (i + 1) bs in
    let s : left made start n i bs ≡ after (Ok x) more =
    left_more made start n i bs h ∙ ap (λ (r : Result _ Refusal). after r more) (sym p) in
    sym (before_more xs x more) ∙ (ap (before xs) (sym s) ∙ inv)

pub reading_stops : {A : Type 0} (made : ℕ → ℕ → Result A Fault) (start n i : ℕ) (bs : List ℕ) (xs : List A)
    (e : Refusal) → i < n → Reading made start n i bs xs
    → Err e ≡ pair_at made (start + 2 * i) (drop (2 * i) bs) → pairs made n start bs ≡ Err e
reading_stops made start n i bs xs e h inv p =
    let more : Result (List _) Refusal = left made start n (i + 1) bs in
    let s : left made start n i bs ≡ Err e =
    left_more made start n i bs h ∙ ap (λ (r : Result _ Refusal). after r more) (sym p) in
    sym inv ∙ ap (before xs) s

-- the bytes end before all things are there
pub reading_cut : {A : Type 0} (made : ℕ → ℕ → Result A Fault) (start n i : ℕ) (bs : List ℕ) (xs : List A)
    → i < n → length bs < 2 * i + 2 → Reading made start n i bs xs
    → pairs made n start bs ≡ Err (refusal Cut (start + 2 * i))
reading_cut made start n i bs xs h l inv =
    reading_stops made start n i bs xs _ h inv (sym (pair_cut made (start + 2 * i) (2 * i) bs l))

pub reading_all : {A : Type 0} (made : ℕ → ℕ → Result A Fault) (start n i : ℕ) (bs : List ℕ) (xs : List A)
    → i ≡ n → length bs ≤ 2 * i → Reading made start n i bs xs → pairs made n start bs ≡ Ok xs
reading_all made start n i bs xs q l inv =
    let e : n - i ≡ 0 = omega arith in
    let s : left made start n i bs ≡ Ok [] =
    ap (λ (m : ℕ). pairs made m (start + 2 * i) (drop (2 * i) bs)) e
    ∙ ap (pairs made 0 (start + 2 * i)) (drop_all (2 * i) bs l) in
    sym inv ∙ (ap (before xs) s ∙ ap (λ (zs : List _). Ok zs) (append-nil xs))

pub reading_extra : {A : Type 0} (made : ℕ → ℕ → Result A Fault) (start n i : ℕ) (bs : List ℕ) (xs : List A)
    → i ≡ n → 2 * i < length bs → Reading made start n i bs xs
    → pairs made n start bs ≡ Err (refusal Extra (start + 2 * i))
reading_extra made start n i bs xs q l inv =
    let e : n - i ≡ 0 = omega arith in
    let s : left made start n i bs ≡ Err (refusal Extra (start + 2 * i)) =
    ap (λ (m : ℕ). pairs made m (start + 2 * i) (drop (2 * i) bs)) e
    ∙ ap (pairs made 0 (start + 2 * i)) (drop_more bs (2 * i) 0 l) in
    sym inv ∙ ap (before xs) s

-- a turn of the loop over the first m chunks, at one that gives a value, and at one that is refused
module _ {A : Type 0} (made : ℕ → ℕ → Result A Fault) (start n m i at : ℕ) (bs c : List ℕ) (xs : List A)
    (r : Result A Refusal) (e : m ≡ n) (h : i < length (take m (chunks bs))) (q : c ≡ get_or (take m (chunks bs)) i c)
    (inv : Reading made start n i bs xs) (s : at ≡ start + 2 * i) (p : r ≡ placed at (made (get_or c 0 0) (get_or c 1 0))) where
  turn_in : i < n
  turn_in =
      let l : length (take m (chunks bs)) ≡ min m (length bs / 2) = length_taken m bs in
      omega (arith, e, h, l)

  turn_reads : r ≡ pair_at made (start + 2 * i) (drop (2 * i) bs)
  turn_reads =
      p
      ∙ (ap (λ (j : ℕ). placed j (made (get_or c 0 0) (get_or c 1 0))) s
      ∙ sym (chunk_at made (start + 2 * i) m i bs c h q))

  pub turn_more : (x : A) → r ≡ Ok x → Reading made start n (i + 1) bs (xs ++ x ∷ [])
  turn_more x k = reading_more made start n i bs xs x turn_in inv (sym k ∙ turn_reads)

  pub turn_stops : (f : Refusal) → r ≡ Err f → pairs made n start bs ≡ Err f
  turn_stops f k = reading_stops made start n i bs xs f turn_in inv (sym k ∙ turn_reads)

-- one value more is in hand
pub reading_grown : {A : Type 0} (made : ℕ → ℕ → Result A Fault) (start n i j : ℕ) (bs : List ℕ) (xs ys : List A) (x : A)
    → length xs ≡ i → i + 1 ≡ j → ys ≡ xs ++ x ∷ [] → Reading made start n (i + 1) bs (xs ++ x ∷ [])
    → (length ys ≡ j) × Reading made start n j bs ys
reading_grown made start n i j bs xs ys x l e q inv =
    let k : length ys ≡ j = ap length q ∙ omega (arith, length-append xs (x ∷ []), l, e) in
    (k, rw (← e, q) inv)
