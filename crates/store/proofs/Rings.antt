-- What a ring of places gives after a write and after a step, over plain lists.
use Rattle.std.proofs.Common.{◌≡◌, ℕ, zero, suc, ◌+◌, ◌-◌, ◌%◌, ◌<◌, ◌≤◌, List, [], ◌∷◌, ◌++◌, length, get_or, take, drop, set, Some, sym, ap, ◌∙◌, subst, ⊎_elim, arith}
use Rattle.std.proofs.lemmas.List.{length-take, length-drop, length-append, append_assoc, append-nil, drop-set-add, drop-set-lt, take-set-le, set-append_left, set-append_right, take_more_set, take-append-le, take-take, drop_all, drop_more, take_more, get_or-take, get_or-drop, get_or_append_left, get_or-append_right}
use Rattle.std.proofs.Math.Seq.{take-set-lt}
use Rattle.std.proofs.lemmas.Bool.{cases_lt}
use Rattle.net.specs.Heads.{head_of, tail_of}
use Rattle.std.specs.List.{slice_get}
use Rattle.std.proofs.lemmas.Option.{slice_get-get_or}
use Rattle.store.specs.Ring.{round, ring_of}

pub length_round : {A : Type 0} (xs : List A) (i : ℕ) → i ≤ length xs → length (round xs i) ≡ length xs
length_round xs i h = simp (length-append, length-drop, length-take) (omega arith)

pub length_ring : {A : Type 0} (xs : List A) (i n : ℕ) → i ≤ length xs → n ≤ length xs → length (ring_of xs i n) ≡ n
unfolding ring_of
length_ring xs i n h k = let l = length_round xs i h in simp length-take (omega arith)

pub ring_none : {A : Type 0} (xs : List A) (i n : ℕ) → n ≡ 0 → ring_of xs i n ≡ []
unfolding ring_of
ring_none xs i n e = ap (λ (m : ℕ). take m (round xs i)) e

-- a write at the n-th place from i on
round_set : {A : Type 0} (xs : List A) (i n k : ℕ) (b : A) → length xs ≡ 32 → i < 32 → n < 32 → k ≡ (i + n) % 32 → round (set xs k b) i ≡ set (round xs i) n b
round_set xs i n k b l hi hn e = ⊎_elim low high (cases_lt (i + n) 32)
  where
    low : i + n < 32 → round (set xs k b) i ≡ set (round xs i) n b
    low h = let f : k ≡ i + n = omega arith in
        let d : n < length (drop i xs) = simp length-drop (omega arith) in
        let p : drop i (set xs k b) ≡ set (drop i xs) n b = subst (λ (j : ℕ). drop i (set xs j b) ≡ set (drop i xs) n b) (sym f) (drop-set-add i xs n b) in
        let q : take i (set xs k b) ≡ take i xs = take-set-le i xs k b (omega arith) in
        let s = set-append_left (drop i xs) (take i xs) n b d in
        cc

    high : 32 ≤ i + n → round (set xs k b) i ≡ set (round xs i) n b
    high h = let f : k ≡ n - (32 - i) = omega arith in
        let m : length (drop i xs) ≡ 32 - i = simp length-drop (omega arith) in
        let p : drop i (set xs k b) ≡ drop i xs = drop-set-lt i xs k b (omega arith) in
        let q : take i (set xs k b) ≡ set (take i xs) k b = take-set-lt i xs k b (omega arith) in
        let s = set-append_right (drop i xs) (take i xs) (32 - i) n b m (omega arith) in
        let g : set (take i xs) k b ≡ set (take i xs) (n - (32 - i)) b = ap (λ (j : ℕ). set (take i xs) j b) f in
        cc

pub ring_push : {A : Type 0} (xs : List A) (i n k : ℕ) (b : A) → length xs ≡ 32 → i < 32 → n < 32 → k ≡ (i + n) % 32 → ring_of (set xs k b) i (n + 1) ≡ ring_of xs i n ++ (b ∷ [])
unfolding ring_of
ring_push xs i n k b l hi hn e =
    let r = length_round xs i (omega arith) in
    ap (λ (ys : List _). take (n + 1) ys) (round_set xs i n k b l hi hn e) ∙ take_more_set (round xs i) n b (omega arith)

-- one place on, the ring has the same elements but the first
ring_on : {A : Type 0} (xs : List A) (i k n : ℕ) (d : A) → length xs ≡ 32 → i < 32 → n < 32 → k ≡ (i + 1) % 32 → take n (round xs k) ≡ take n (drop (i + 1) xs ++ take i xs)
ring_on {A = A} xs i k n d l hi hn e = ⊎_elim low high (cases_lt (i + 1) 32)
  where
    low : i + 1 < 32 → take n (round xs k) ≡ take n (drop (i + 1) xs ++ take i xs)
    low h =
        let f : k ≡ i + 1 = omega arith in
        let front : List A = drop (i + 1) xs ++ take i xs in
        let size : n ≤ length front = simp (length-append, length-drop, length-take) (omega arith) in
        let p : round xs k ≡ round xs (i + 1) = ap (λ (j : ℕ). round xs j) f in
        let q : take (i + 1) xs ≡ take i xs ++ get_or xs i d ∷ [] = take_more xs i d (omega arith) in
        let s : front ++ (get_or xs i d ∷ []) ≡ drop (i + 1) xs ++ (take i xs ++ (get_or xs i d ∷ [])) =
        append_assoc (drop (i + 1) xs) (take i xs) (get_or xs i d ∷ []) in
        let t : take n (front ++ (get_or xs i d ∷ [])) ≡ take n front = take-append-le n front (get_or xs i d ∷ []) size in
        cc

    high : 32 ≤ i + 1 → take n (round xs k) ≡ take n (drop (i + 1) xs ++ take i xs)
    high h =
        let f : k ≡ 0 = omega arith in
        let p : round xs k ≡ round xs 0 = ap (λ (j : ℕ). round xs j) f in
        let z : round xs 0 ≡ xs = append-nil xs in
        let m : drop (i + 1) xs ≡ [] = drop_all (i + 1) xs (omega arith) in
        let g : drop (i + 1) xs ++ take i xs ≡ take i xs = ap (λ (ys : List A). ys ++ take i xs) m in
        let t : take n (take i xs) ≡ take n xs = take-take n i xs (omega arith) in
        cc

-- the ring from its first element on
ring_cons : {A : Type 0} (xs : List A) (i m : ℕ) (d : A) → i < length xs → ring_of xs i (suc m) ≡ get_or xs i d ∷ take m (drop (i + 1) xs ++ take i xs)
unfolding ring_of
ring_cons {A = A} xs i m d h = ap (λ (ys : List A). take (suc m) (ys ++ take i xs)) (drop_more xs i d h)

pub ring_head : {A : Type 0} (xs : List A) (i n : ℕ) (d : A) → i < length xs → 0 < n → Some (get_or xs i d) ≡ head_of (ring_of xs i n)
ring_head xs i zero d h p = absurd (omega arith)
ring_head xs i (suc m) d h p = sym (ap head_of (ring_cons xs i m d h))

pub ring_tail : {A : Type 0} (xs : List A) (i k n : ℕ) (d : A) → length xs ≡ 32 → i < 32 → 0 < n → n ≤ 32 → k ≡ (i + 1) % 32 → ring_of xs k (n - 1) ≡ tail_of (ring_of xs i n)
unfolding ring_of
ring_tail xs i k zero d l hi p hn e = absurd (omega arith)
ring_tail xs i k (suc m) d l hi p hn e =
    let o : take m (round xs k) ≡ take m (drop (i + 1) xs ++ take i xs) = ring_on xs i k m d l hi (omega arith) e in
    let t : tail_of (ring_of xs i (suc m)) ≡ take m (drop (i + 1) xs ++ take i xs) = ap tail_of (ring_cons xs i m d (omega arith)) in
    let c : ring_of xs k (suc m - 1) ≡ ring_of xs k m = ap (λ (j : ℕ). ring_of xs k j) (omega arith) in
    cc

-- what stands m places from i on
round_read : {A : Type 0} (xs : List A) (i m k : ℕ) (d : A) → length xs ≡ 32 → i < 32 → m < 32 → k ≡ (i + m) % 32 → get_or (round xs i) m d ≡ get_or xs k d
round_read xs i m k d l hi hm e = ⊎_elim low high (cases_lt (i + m) 32)
  where
    low : i + m < 32 → get_or (round xs i) m d ≡ get_or xs k d
    low h = let f : i + m ≡ k = omega arith in
        get_or_append_left (drop i xs) (take i xs) d m (simp length-drop (omega arith)) ∙ get_or-drop i xs m d ∙ ap (λ (j : ℕ). get_or xs j d) f

    high : 32 ≤ i + m → get_or (round xs i) m d ≡ get_or xs k d
    high h = let f : m - (32 - i) ≡ k = omega arith in
        get_or-append_right (drop i xs) (take i xs) (32 - i) m d (simp length-drop (omega arith)) (omega arith) ∙
        get_or-take i xs (m - (32 - i)) d (omega arith) ∙ ap (λ (j : ℕ). get_or xs j d) f

pub ring_get : {A : Type 0} (xs : List A) (i n m k : ℕ) (d : A) → length xs ≡ 32 → i < 32 → n ≤ 32 → m < n → k ≡ (i + m) % 32 → Some (get_or xs k d) ≡ slice_get (ring_of xs i n) m
unfolding ring_of
ring_get {A = A} xs i n m k d l hi hn hm e =
    let size : m < length (take n (round xs i)) = let r = length_round xs i (omega arith) in simp length-take (omega arith) in
    let same : get_or xs k d ≡ get_or (take n (round xs i)) m d = sym (get_or-take n (round xs i) m d hm ∙ round_read xs i m k d l hi (omega arith) e) in
    ap (λ (b : A). Some b) same ∙ sym (slice_get-get_or (take n (round xs i)) m d size)
