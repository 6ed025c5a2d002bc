-- Lists read as functions of the index: a write to a list is `at` of its function. Assumes nothing.
use Rattle.std.proofs.Common.{◌≡◌, ℕ, ◌+◌, ◌-◌, ◌<◌, ◌⊎◌, List, ◌++◌, map, length, All, get_or, set, sym, ap, ◌∙◌, inl, inr, arith}
use mathlib.Core.Path.{fun_ext}
use Rattle.std.proofs.lemmas.List.{get_or-set_same, get_or-set_other, get_or-append_right, get_or-map, length-append, length-map, map-set, set-append_right}
use Rattle.std.proofs.lemmas.List.Elements.{All-set}
use Rattle.std.proofs.lemmas.Grind.{get_or-set_at}
use Rattle.std.proofs.lemmas.Bool.{cases_eq}
use Rattle.machine.proofs.Steps.{at_same, at_other}
use Rattle.machine.specs.Round.{at}

pub at_set : {A : Type 0} (xs : List A) (i : ℕ) (a d : A) → i < length xs → (λ k. get_or (set xs i a) k d) ≡ at i a (λ k. get_or xs k d)
at_set xs i a d h = fun_ext (λ k. go k (cases_eq k i))
  where
    go : (k : ℕ) → (k ≡ i) ⊎ (k ≡ i → ⊥) → get_or (set xs i a) k d ≡ at i a (λ j. get_or xs j d) k
    go k (inl e) = ap (λ (j : ℕ). get_or (set xs i a) j d) e ∙ get_or-set_same xs i a d h ∙ sym (ap (at i a (λ j. get_or xs j d)) e ∙ at_same i a (λ j. get_or xs j d))
    go k (inr n) = get_or-set_other xs i k a d n ∙ sym (at_other i a (λ j. get_or xs j d) k n)

-- what is written is what was there
pub at_here : {A : Type 0} (i : ℕ) (a : A) (f : ℕ → A) → a ≡ f i → at i a f ≡ f
at_here i a f h = fun_ext (λ k. go k (cases_eq k i))
  where
    go : (k : ℕ) → (k ≡ i) ⊎ (k ≡ i → ⊥) → at i a f k ≡ f k
    go k (inl e) = ap (at i a f) e ∙ at_same i a f ∙ h ∙ sym (ap f e)
    go k (inr n) = at_other i a f k n

pub mapped_read : {Y A : Type 0} (g : Y → A) (ys : List Y) (i : ℕ) (y : Y) (d : A) → i < length ys → y ≡ get_or ys i y → get_or (map g ys) i d ≡ g y
mapped_read g ys i y d h e = get_or-map g ys i y d h ∙ ap g (sym e)

-- A row of values in two parts: those of the links, then those of the doors.
pub behind_read : {A : Type 0} (xs ys : List A) (i n j : ℕ) (d : A) → n ≡ length xs → i ≡ n + j → get_or (xs ++ ys) i d ≡ get_or ys j d
behind_read xs ys i n j d q h = get_or-append_right xs ys n i d (sym q) (omega arith) ∙ ap (λ (k : ℕ). get_or ys k d) (omega arith)

-- a write behind the first part
pub behind_set : {A : Type 0} (xs ys : List A) (i n j : ℕ) (a d : A) → n ≡ length xs → i ≡ n + j → j < length ys →
    (λ k. get_or (xs ++ set ys j a) k d) ≡ at i a (λ k. get_or (xs ++ ys) k d)
behind_set {A = A} xs ys i n j a d q h l =
    let e : i - n ≡ j = omega arith in
    ap {B = ℕ → A} (λ (v : List A) (k : ℕ). get_or v k d)
    (ap (λ (k : ℕ). xs ++ set ys k a) (sym e) ∙ sym (set-append_right xs ys n i a (sym q) (omega arith))) ∙
    at_set (xs ++ ys) i a d (let k = length-append xs ys in omega arith)

-- each stays below a bound where what is written is
pub below_set : {Y : Type 0} (g : Y → ℕ) (ys : List Y) (i : ℕ) (w : Y) (n m : ℕ) → i < length ys → ((e : ℕ) → e < n → get_or (map g ys) e 0 < m) → g w < m →
    (e : ℕ) → e < n → get_or (map g (set ys i w)) e 0 < m
below_set g ys i w n m h all new e l = rw map-set (go (cases_eq e i))
  where
    go : (e ≡ i) ⊎ (e ≡ i → ⊥) → get_or (set (map g ys) i (g w)) e 0 < m
    go (inl q) = let k = get_or-set_at (map g ys) i e (g w) 0 q (simp length-map h) in omega arith
    go (inr q) = let k = get_or-set_other (map g ys) i e (g w) 0 q in let o = all e l in omega arith

-- all read the same where what is written reads as what was there
pub same_set : {Y : Type 0} (g : Y → ℕ) (ys : List Y) (i : ℕ) (y w : Y) (m : ℕ) → i < length ys → y ≡ get_or ys i y → g w ≡ g y → All (λ v. g v ≡ m) ys → All (λ v. g v ≡ m) (set ys i w)
same_set g ys i y w m h is e all = All-set (λ v. g v ≡ m) ys i w (e ∙ ap g is ∙ all i y h) all
