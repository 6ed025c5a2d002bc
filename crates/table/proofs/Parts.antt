-- A row of a table written anew: what stands in it, and in the other rows. Assumes nothing.
use Rattle.std.proofs.Common.{◌≡◌, ℕ, suc, ◌+◌, ◌-◌, ◌*◌, ◌<◌, ◌≤◌, List, ◌++◌, length, get_or, take, drop, ap, ◌∙◌, ⊎_elim, mul-le-mul_right, arith}
use borrow.Rule.Slice.PartMut.{put_mid}
use Rattle.std.proofs.lemmas.List.{length-take-le, get_or-take, get_or-drop, get_or_append_left, get_or-append_right}
use Rattle.std.proofs.lemmas.Bool.{cases_lt}

-- the part that was lent begins at a and has k elements
pub put_in : {X : Type 0} (a k : ℕ) (xs ys : List X) (d : X) (p : ℕ) → a + k ≤ length xs → length ys ≡ k → p < k → get_or (put_mid a k xs ys) (a + p) d ≡ get_or ys p d
put_in a k xs ys d p l q h =
    let t = length-take-le a xs (omega arith) in
    let e : (a + p) - a ≡ p = omega arith in
    get_or-append_right (take a xs) (ys ++ drop k (drop a xs)) a (a + p) d t (omega arith)
    ∙ ap (λ (i : ℕ). get_or (ys ++ drop k (drop a xs)) i d) e ∙ get_or_append_left ys (drop k (drop a xs)) d p (omega arith)

pub put_before : {X : Type 0} (a k : ℕ) (xs ys : List X) (d : X) (i : ℕ) → a + k ≤ length xs → i < a → get_or (put_mid a k xs ys) i d ≡ get_or xs i d
put_before a k xs ys d i l h =
    let t = length-take-le a xs (omega arith) in
    get_or_append_left (take a xs) (ys ++ drop k (drop a xs)) d i (omega arith) ∙ get_or-take a xs i d h

pub put_after : {X : Type 0} (a k : ℕ) (xs ys : List X) (d : X) (i : ℕ) → a + k ≤ length xs → length ys ≡ k → a + k ≤ i → get_or (put_mid a k xs ys) i d ≡ get_or xs i d
put_after a k xs ys d i l q h =
    let t = length-take-le a xs (omega arith) in
    let e : a + (k + ((i - a) - k)) ≡ i = omega arith in
    get_or-append_right (take a xs) (ys ++ drop k (drop a xs)) a i d t (omega arith)
    ∙ get_or-append_right ys (drop k (drop a xs)) k (i - a) d q (omega arith)
    ∙ get_or-drop k (drop a xs) ((i - a) - k) d ∙ get_or-drop a xs (k + ((i - a) - k)) d ∙ ap (λ (j : ℕ). get_or xs j d) e

-- another row stays as it is
pub put_other : {X : Type 0} (n x : ℕ) (xs ys : List X) (d : X) (i p : ℕ) → x * n + n ≤ length xs → length ys ≡ n → (i ≡ x → ⊥) → p < n → get_or (put_mid (x * n) n xs ys) (i * n + p) d ≡ get_or xs (i * n + p) d
put_other n x xs ys d i p l q ne h = ⊎_elim below above (cases_lt i x)
  where
    below : i < x → get_or (put_mid (x * n) n xs ys) (i * n + p) d ≡ get_or xs (i * n + p) d
    below o = let m : suc i * n ≤ x * n = mul-le-mul_right n o in put_before (x * n) n xs ys d (i * n + p) l (omega arith)

    above : x ≤ i → get_or (put_mid (x * n) n xs ys) (i * n + p) d ≡ get_or xs (i * n + p) d
    above o = let m : suc x * n ≤ i * n = mul-le-mul_right n (let z : suc x ≤ i = omega arith in z) in put_after (x * n) n xs ys d (i * n + p) l q (omega arith)

-- a row lies in a table of so many rows
pub row_in : (n x m : ℕ) → x < m → x * n + n ≤ m * n
row_in n x m l = let p : suc x * n ≤ m * n = mul-le-mul_right n l in omega arith
