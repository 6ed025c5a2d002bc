-- Files of a head and things of two bytes: what an accepted one says, what is read back, and where a cut is refused. Assumes nothing.
use Rattle.std.proofs.Common.{◌≡◌, ℕ, ◌+◌, ◌-◌, ◌*◌, ◌/◌, ◌<◌, ◌≤◌, ◌⊎◌, List, length, take, drop, Ok, Err, Result, sym, refl, ap, ◌∙◌, inl, inr, arith}
use Rattle.std.proofs.lemmas.List.{drop-take, length-drop}
use Rattle.std.proofs.lemmas.Bool.{cases_lt}
use Rattle.wire.specs.declared.fault.Fault.{Fault}
use Rattle.wire.specs.declared.fault.Fault.TheVariants.{Cut}
use Rattle.wire.specs.declared.fault.Refusal.{Refusal}
use Rattle.wire.specs.Faults.{refusal}
use Rattle.wire.specs.Files.{with_things, then_things, file_read, read_as}
use Rattle.wire.specs.Laws.{begin_of}
use Rattle.wire.specs.Pairs.{Each, pairs, pair_bytes}
use Rattle.wire.proofs.PairLaws.{wrong, pairs_back, pairs_cut}
use Rattle.wire.proofs.HeadLaws.{begin_head, begin_after}

-- what was read before it was taken as another value
pub record Read {A B : Type 0} (f : A → B) (r : Result A Refusal) (y : B) : Type 0 where
  pub value : A
  pub is : r ≡ Ok value
  pub same : f value ≡ y

pub read_before : {A B : Type 0} (f : A → B) (r : Result A Refusal) (y : B) → read_as f r ≡ Ok y → Read f r y
read_before f (Err e) y q = wrong _ e y q
read_before f (Ok x) y q =
    let e : f x ≡ y = cc in
    record { value = x; is = refl; same = e }

-- an accepted file has an accepted head and a row of things
pub record Accepted {H A : Type 0} (head : List ℕ → Result H Fault) (made : H → ℕ → ℕ → Result A Fault) (number : H → ℕ)
    (size : ℕ) (bs : List ℕ) (h : H) (xs : List A) : Type 0 where
  pub is_head : head bs ≡ Ok h
  pub row : pairs (made h) (number h) size (drop size bs) ≡ Ok xs

module _ {H A : Type 0} (head : List ℕ → Result H Fault) (made : H → ℕ → ℕ → Result A Fault) (number : H → ℕ) (size : ℕ) where
  accepted_row : (bs : List ℕ) (g h : H) (xs : List A) (s : Result (List A) Refusal) → head bs ≡ Ok g
      → pairs (made g) (number g) size (drop size bs) ≡ s → with_things g s ≡ Ok (h, xs)
      → Accepted head made number size bs h xs
  accepted_row bs g h xs (Err e) p t q = wrong _ e (h, xs) q
  accepted_row bs g h xs (Ok ys) p t q =
      let e : (g, ys) ≡ (h, xs) = cc in
      let eh : g ≡ h = ap (λ (x : H × List A). x.0) e in
      let ex : ys ≡ xs = ap (λ (x : H × List A). x.1) e in
      record { is_head = p ∙ ap (λ (x : H). Ok x) eh; row = rw (← eh) (t ∙ ap (λ (zs : List A). Ok zs) ex) }

  accepted_head : (bs : List ℕ) (h : H) (xs : List A) (r : Result H Fault) → head bs ≡ r
      → then_things made number size r bs ≡ Ok (h, xs) → Accepted head made number size bs h xs
  accepted_head bs h xs (Err f) p q = wrong _ (refusal f 0) (h, xs) q
  accepted_head bs h xs (Ok g) p q = accepted_row bs g h xs _ p refl q

  pub accepted : (bs : List ℕ) (h : H) (xs : List A) → file_read head made number size bs ≡ Ok (h, xs)
      → Accepted head made number size bs h xs
  accepted bs h xs q = accepted_head bs h xs (head bs) refl q

  -- a file is read back, where its head is
  pub file_back : (high low : A → ℕ) (P : A → Type 0) (bs : List ℕ) (h : H) (xs : List A) → head bs ≡ Ok h
      → drop size bs ≡ pair_bytes high low xs → number h ≡ length xs → Each P xs
      → ((x : A) → P x → made h (high x) (low x) ≡ Ok x) → file_read head made number size bs ≡ Ok (h, xs)
  file_back high low P bs h xs e d n ps one =
      ap (λ (r : Result H Fault). then_things made number size r bs) e
      ∙ (ap (λ (ds : List ℕ). with_things h (pairs (made h) (number h) size ds)) d
      ∙ (ap (λ (m : ℕ). with_things h (pairs (made h) m size (pair_bytes high low xs))) n
      ∙ ap (with_things h) (pairs_back (made h) high low P one size xs ps)))

  cut_at : (bs : List ℕ) (h : H) (xs : List A) (k : ℕ) → Accepted head made number size bs h xs → k < length bs
      → (k < size → head (take k bs) ≡ Err Cut) → (size ≤ k → head (take k bs) ≡ Ok h)
      → (k < size) ⊎ (size ≤ k) → file_read head made number size (take k bs) ≡ Err (refusal Cut (begin_of size k))
  cut_at bs h xs k a l early late (inl c) =
      ap (λ (r : Result H Fault). then_things made number size r (take k bs)) (early c)
      ∙ ap (λ (m : ℕ). Err (refusal Cut m)) (sym (begin_head size k c))
  cut_at bs h xs k a l early late (inr c) =
      let j : ℕ = k - size in
      let kj : k ≡ size + j = omega arith in
      let d : drop size (take k bs) ≡ take j (drop size bs) =
      ap (λ (m : ℕ). drop size (take m bs)) kj ∙ drop-take size j bs in
      let x : pairs (made h) (number h) size (take j (drop size bs)) ≡ Err (refusal Cut (size + 2 * (j / 2))) =
      pairs_cut (made h) (number h) size (drop size bs) xs j a.row (omega (arith, length-drop size bs)) in
      ap (λ (r : Result H Fault). then_things made number size r (take k bs)) (late c)
      ∙ (ap (λ (ds : List ℕ). with_things h (pairs (made h) (number h) size ds)) d
      ∙ (ap (with_things h) x ∙ ap (λ (m : ℕ). Err (refusal Cut m)) (sym (begin_after size k c))))

  -- an accepted file that is cut is refused where it is cut, if a cut inside of its head is, and one after it leaves it
  pub file_cut : (bs : List ℕ) (h : H) (xs : List A) (k : ℕ) → Accepted head made number size bs h xs → k < length bs
      → (k < size → head (take k bs) ≡ Err Cut) → (size ≤ k → head (take k bs) ≡ Ok h)
      → file_read head made number size (take k bs) ≡ Err (refusal Cut (begin_of size k))
  file_cut bs h xs k a l early late = cut_at bs h xs k a l early late (cases_lt k size)
