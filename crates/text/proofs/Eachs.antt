-- One text more, and texts one after another. Assumes nothing.
use Rattle.std.proofs.Common.{◌≡◌, ℕ, suc, ◌+◌, ◌<◌, Bool, true, false, cond, ltb, List, [], ◌∷◌, ◌++◌, length, get_or, Some, None, codes, Option, unwrap_or, sym, refl, ap, ◌∙◌, append_assoc, arith, ltb-false, ltb-true, lt-ltb}
use Rattle.std.proofs.lemmas.List.{append-nil, get_or_past}
use Rattle.text.specs.Texts.{below, each, none_word}

-- a text that holds a head and the texts of the numbers below i gets one more
pub below_grows : (f : ℕ → List ℕ) (head s t : List ℕ) (i : ℕ) → s ≡ head ++ below f i → t ≡ s ++ f i → t ≡ head ++ below f (i + 1)
unfolding below
below_grows f head s t i p q =
    q ∙ ap (λ (u : List ℕ). u ++ f i) p ∙ append_assoc head (below f i) (f i) ∙ ap (λ (n : ℕ). head ++ below f n) (let e : suc i ≡ i + 1 = omega arith in e)

pub below_starts : (f : ℕ → List ℕ) (head s : List ℕ) → s ≡ head → s ≡ head ++ below f 0
unfolding below
below_starts f head s p = p ∙ sym (append-nil head)

-- the texts of the numbers below n, where a loop came to its end
pub below_ends : (f : ℕ → List ℕ) (head s : List ℕ) (i n : ℕ) → i ≡ n → s ≡ head ++ below f i → s ≡ head ++ below f n
below_ends f head s i n e p = p ∙ ap (λ (m : ℕ). head ++ below f m) e

each_from : {A : Type 0} (f : ℕ → A → List ℕ) (g : ℕ → List ℕ) (d : A) (k n : ℕ) (head : List ℕ) (xs : List A) → k + length xs ≡ n → head ≡ below g k →
    ((i j : ℕ) → k + i ≡ j → i < length xs → f j (get_or xs i d) ≡ g j) → head ++ each f k xs ≡ below g n
unfolding below each
each_from f g d k n head [] e p h = append-nil head ∙ p ∙ ap (below g) (let q : k ≡ n = omega arith in q)
each_from f g d k n head (x ∷ xs) e p h =
    sym (append_assoc head (f k x) (each f (suc k) xs))
    ∙ each_from f g d (suc k) n (head ++ f k x) xs (omega arith) (ap (λ (u : List ℕ). u ++ f k x) p ∙ ap (λ (u : List ℕ). below g k ++ u) (h 0 k (omega arith) (omega arith)))
    (λ i j q l. h (suc i) j (omega arith) (omega arith))

-- the texts of the elements of a list, where each is the text of its index
pub each_below : {A : Type 0} (f : ℕ → A → List ℕ) (g : ℕ → List ℕ) (d : A) (n : ℕ) (xs : List A) → length xs ≡ n → ((k : ℕ) → k < n → f k (get_or xs k d) ≡ g k) → each f 0 xs ≡ below g n
unfolding below
each_below f g d n xs e h =
    each_from f g d 0 n [] xs (omega arith) refl (λ i j q l. ap (λ (m : ℕ). f j (get_or xs m d)) (let r : i ≡ j = omega arith in r) ∙ h j (omega arith))

-- two and three texts that come one after another
pub two : (s t u a b : List ℕ) → t ≡ s ++ a → u ≡ t ++ b → u ≡ s ++ (a ++ b)
two s t u a b p q = q ∙ ap (λ (x : List ℕ). x ++ b) p ∙ append_assoc s a b

pub three : (s t u v a b d : List ℕ) → t ≡ s ++ a → u ≡ t ++ b → v ≡ u ++ d → v ≡ s ++ ((a ++ b) ++ d)
three s t u v a b d p q r = two s u v (a ++ b) d (two s t u a b p q) r

pub four : (s t u v w a b d e : List ℕ) → t ≡ s ++ a → u ≡ t ++ b → v ≡ u ++ d → w ≡ v ++ e → w ≡ s ++ (((a ++ b) ++ d) ++ e)
four s t u v w a b d e p q r z = two s v w ((a ++ b) ++ d) e (three s t u v a b d p q r) z

-- a value that is there
pub value_is : (r : Option ℕ) (d n v m : ℕ) → d < n → r ≡ cond (ltb d n) (Some v) None → m ≡ unwrap_or r 0 → m ≡ v
value_is r d n v m l p q = q ∙ ap (λ (x : Option ℕ). unwrap_or x 0) (p ∙ ap (λ (b : Bool). cond b (Some v) None) (lt-ltb d n l))

-- the word where there is nothing
pub none_there : {A : Type 0} (xs : List A) → length xs ≡ 0 → none_word xs ≡ codes " none"
none_there [] e = refl
none_there (x ∷ xs) e = absurd (omega arith)

pub none_gone : {A : Type 0} (xs : List A) → 0 < length xs → none_word xs ≡ []
none_gone [] e = absurd (omega arith)
none_gone (x ∷ xs) e = refl

-- a value that is there or 0, where a list holds it
pub value_or : (xs : List ℕ) (r : Option ℕ) (c n v m : ℕ) → r ≡ cond (ltb c n) (Some v) None → m ≡ unwrap_or r 0 → length xs ≡ n → (c < n → get_or xs c 0 ≡ v) → m ≡ get_or xs c 0
value_or xs r c n v m p q l f = go (ltb c n) refl
  where
    go : (b : Bool) → ltb c n ≡ b → m ≡ get_or xs c 0
    go true t = value_is r c n v m (ltb-true c n t) p q ∙ sym (f (ltb-true c n t))
    go false t = q ∙ ap (λ (x : Option ℕ). unwrap_or x 0) (p ∙ ap (λ (b : Bool). cond b (Some v) None) t) ∙ sym (get_or_past xs c 0 (omega (arith, ltb-false c n t)))
