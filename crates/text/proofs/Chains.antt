-- What is written of each thing that a chain gives. Assumes nothing.
use Rattle.std.proofs.Common.{◌≡◌, ℕ, zero, suc, ◌+◌, List, [], ◌∷◌, ◌++◌, length, map, Option, Some, sym, refl, ap, ◌∙◌, subst, append_assoc, append-nil, length-append, arith}
use denote.Param.Members.{Mut}
use Rattle.std.specs.Fn.{Called}
use Rattle.std.specs.Iterator.Adapters.{enumerate_count, enumerate_source, enumerate_steps, filter_map_callee, filter_map_source, filter_map_steps, map_callee, map_source}
use Rattle.std.specs.declared.iter.Enumerate.{Enumerate}
use Rattle.std.specs.declared.iter.FilterMap.{FilterMap}
use Rattle.std.specs.declared.iter.Map.{Map}
use Rattle.std.specs.declared.ops.Range.{Range}
use Rattle.std.proofs.iter.Yields.{nat_range_steps}
use Rattle.std.specs.List.{cons_option, enumerate_from, filter_map, flat_map, range_with_len, slice_get}
use Rattle.std.specs.Option.{IsSome}
use Rattle.std.proofs.lemmas.Iterator.{YieldsList, YieldsList-from_map_by, YieldsList-from_range, items_from_drains, maps}
use Rattle.std.proofs.lemmas.Iterator.Consumers.{YieldsList-from_enumerate, YieldsList-from_filter_map}
use Rattle.text.specs.Texts.{Writes, below, each, shown}

flat : {A : Type 0} (v : A → List ℕ) (xs : List A) → flat_map v xs ≡ flat_map (λ u. u) (map v xs)
flat v [] = refl
flat v (x ∷ xs) = ap (λ u. v x ++ u) (flat v xs)

-- the texts that a chain gives
chain_written : {S A : Type 0} {output : A → Option (List ℕ)} {steps : S → Option A → S → Type 0} {s : S} {old new : List ℕ} (all : List (List ℕ)) →
    Writes output steps s old new → ((x : A) → IsSome (output x)) → YieldsList steps (shown output) s all → new ≡ old ++ flat_map (λ u. u) all
chain_written {output = output} {old = old} all w o y =
    let r = w.written o in
    r.2 ∙ ap (λ (u : List ℕ). old ++ u) (flat (shown output) r.0 ∙ ap (flat_map (λ u. u)) (items_from_drains r.0 (r.1.1.0, r.1.1.1, λ _. (r.1.0, r.1.1.2)) y))

range_flat : (f : ℕ → List ℕ) (a n k : ℕ) (head : List ℕ) → a + n ≡ k → head ≡ below f a → head ++ flat_map (λ u. u) (map f (range_with_len a n)) ≡ below f k
unfolding below
range_flat f a zero k head e p = append-nil head ∙ p ∙ ap (below f) (let q : a ≡ k = omega arith in q)
range_flat f a (suc n) k head e p =
    sym (append_assoc head (f a) (flat_map (λ u. u) (map f (range_with_len (a + 1) n))))
    ∙ range_flat f (a + 1) n k (head ++ f a) (omega arith) (ap (λ (u : List ℕ). u ++ f a) p ∙ ap (below f) (let q : suc a ≡ a + 1 = omega arith in q))

-- and of each number of a range
pub below_written : {F A : Type 0} {output : A → Option (List ℕ)} {old new : List ℕ} {s : Map (Range ℕ) F} {h : F} (g : Mut F (ℕ × Unit {0}) A) (f : ℕ → List ℕ) (n : ℕ) →
    Writes output (maps nat_range_steps g) s old new → map_source s ≡ record { start = 0; end = n } → map_callee s ≡ h → ((x : A) → IsSome (output x)) →
    ((k : ℕ) (x : A) (q : F) → Called g h (k, tt) x q → (q ≡ h) × (shown output x ≡ f k)) → new ≡ old ++ below f n
unfolding below
below_written {output = output} {old = old} g f n w a b o r =
    chain_written (map f (range_with_len 0 n)) w o (YieldsList-from_map_by g (shown output) f (YieldsList-from_range 0 n n a (omega arith)) b r)
    ∙ ap (λ (u : List ℕ). old ++ u) (range_flat f 0 n n [] (omega arith) refl)

each_flat : {A : Type 0} (f : A → List ℕ) (k : ℕ) (xs : List A) → flat_map (λ u. u) (map f xs) ≡ each (λ _. f) k xs
unfolding each
each_flat f k [] = refl
each_flat f k (x ∷ xs) = ap (λ (u : List ℕ). f x ++ u) (each_flat f (suc k) xs)

-- of each element of a list
pub each_written : {S X B F A : Type 0} {output : A → Option (List ℕ)} {steps : S → Option X → S → Type 0} {v : X → B} {old new : List ℕ} {s : Map S F} {h : F} (g : Mut F (X × Unit {0}) A) (f : B → List ℕ) {xs : List B} →
    Writes output (maps steps g) s old new → YieldsList steps v (map_source s) xs → map_callee s ≡ h → ((x : A) → IsSome (output x)) →
    ((x : X) (y : A) (q : F) → Called g h (x, tt) y q → (q ≡ h) × (shown output y ≡ f (v x))) → new ≡ old ++ each (λ _. f) 0 xs
each_written {output = output} {old = old} g f {xs} w a b o r =
    chain_written (map f xs) w o (YieldsList-from_map_by g (shown output) f a b r) ∙ ap (λ (u : List ℕ). old ++ u) (each_flat f 0 xs)

numbered_flat : {A : Type 0} (f : ℕ → A → List ℕ) (k : ℕ) (xs : List A) → flat_map (λ u. u) (map (λ p. f p.0 p.1) (enumerate_from k xs)) ≡ each f k xs
unfolding each
numbered_flat f k [] = refl
numbered_flat f k (x ∷ xs) =
    ap (λ (u : List ℕ). f k x ++ u) (numbered_flat f (k + 1) xs ∙ ap (λ n. each f n xs) (let q : k + 1 ≡ suc k = omega arith in q))

-- of each element with its index
pub numbered_written : {S X B F A : Type 0} {output : A → Option (List ℕ)} {steps : S → Option X → S → Type 0} {v : X → B} {old new : List ℕ} {s : Map (Enumerate S) F} {h : F} (g : Mut F ((ℕ × X) × Unit {0}) A) (f : ℕ → B → List ℕ) {xs : List B} →
    Writes output (maps (enumerate_steps steps) g) s old new → YieldsList steps v (enumerate_source (map_source s)) xs → enumerate_count (map_source s) ≡ 0 → map_callee s ≡ h → ((x : A) → IsSome (output x)) →
    ((x : ℕ × X) (y : A) (q : F) → Called g h (x, tt) y q → (q ≡ h) × (shown output y ≡ f x.0 (v x.1))) → new ≡ old ++ each f 0 xs
numbered_written {output = output} {old = old} g f {xs} w a n b o r =
    chain_written (map (λ p. f p.0 p.1) (enumerate_from 0 xs)) w o (YieldsList-from_map_by g (shown output) (λ p. f p.0 p.1) (YieldsList-from_enumerate a n) b r)
    ∙ ap (λ (u : List ℕ). old ++ u) (numbered_flat f 0 xs)

get_at : {A : Type 0} (zs : List A) (x : A) (xs : List A) → slice_get (zs ++ x ∷ xs) (length zs) ≡ Some x
get_at [] x xs = refl
get_at (z ∷ zs) x xs = get_at zs x xs

gets_rest : {A : Type 0} (zs xs : List A) (a : ℕ) → length zs ≡ a → filter_map (slice_get (zs ++ xs)) (range_with_len a (length xs)) ≡ xs
gets_rest zs [] a e = refl
gets_rest zs (x ∷ xs) a e =
    ap (λ o. cons_option o (filter_map (slice_get (zs ++ x ∷ xs)) (range_with_len (a + 1) (length xs)))) (ap (slice_get (zs ++ x ∷ xs)) (sym e) ∙ get_at zs x xs)
    ∙ ap (λ ys. x ∷ ys) (ap (λ ys. filter_map (slice_get ys) (range_with_len (a + 1) (length xs))) (sym (append_assoc zs (x ∷ []) xs)) ∙ gets_rest (zs ++ x ∷ []) xs (a + 1) (length-append zs (x ∷ []) ∙ ap (λ n. n + 1) e))

-- a chain that takes the elements of a list one by one by their index
pub YieldsList-from_gets : {F A : Type 0} {s : FilterMap (Range ℕ) F} {h : F} (g : Mut F (ℕ × Unit {0}) (Option A)) (xs : List A) →
    filter_map_source s ≡ record { start = 0; end = length xs } → filter_map_callee s ≡ h →
    ((k : ℕ) (r : Option A) (q : F) → Called g h (k, tt) r q → (q ≡ h) × (r ≡ slice_get xs k)) → YieldsList (filter_map_steps nat_range_steps g) (λ y. y) s xs
YieldsList-from_gets {s = s} g xs a b r =
    subst (λ ys. YieldsList (filter_map_steps nat_range_steps g) (λ y. y) s ys) (gets_rest [] xs 0 refl)
    (YieldsList-from_filter_map g (slice_get xs) (YieldsList-from_range 0 (length xs) (length xs) a (omega arith)) b r)
