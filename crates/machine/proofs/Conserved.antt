-- Nothing is lost, doubled or changed: of every test, what stands and what came are together what was let in. Assumes nothing.
use Rattle.std.proofs.Common.{◌≡◌, ℕ, zero, suc, ◌+◌, ◌<◌, Bool, List, [], ◌∷◌, ◌++◌, sym, refl, ap, ◌∙◌, ⊎_elim, arith}
use Rattle.std.proofs.lemmas.Bool.{cases_eq}
use Rattle.net.specs.declared.Block.{Block}
use Rattle.net.specs.declared.Came.{Came}
use Rattle.net.specs.Net.{Net, channels}
use Rattle.machine.specs.Round.{State, at}
use Rattle.machine.specs.Promise.{Conserved, count, held, blocks}
use Rattle.machine.proofs.Steps.{Entered, Handed, Moved, Kept, always, apart, at_same, at_other}

count_append : {A : Type 0} (f : A → Bool) (xs ys : List A) → count f (xs ++ ys) ≡ count f xs + count f ys
unfolding count
count_append f [] ys = omega arith
count_append f (x ∷ xs) ys = let i = count_append f xs ys in omega arith

count_cons : (f : Block → Bool) (b : Block) (bs : List Block) → count f (b ∷ bs) ≡ count f (b ∷ []) + count f bs
count_cons f b bs = count_append f (b ∷ []) bs

blocks_append : (ks ls : List Came) → blocks (ks ++ ls) ≡ blocks ks ++ blocks ls
unfolding blocks
blocks_append [] ls = refl
blocks_append (k ∷ ks) ls = ap (λ (bs : List Block). k.block ∷ bs) (blocks_append ks ls)

pub handed_blocks : {z : Net} {c : ℕ} {b : Block} {bs : List Block} {s t : State} → Handed z c b bs s t → blocks t.came ≡ blocks s.came ++ (b ∷ [])
unfolding blocks
handed_blocks {c} {b} {s} m = ap blocks m.came ∙ blocks_append s.came (record { block = b; channel = c; round = s.round } ∷ [])

held_same : (f : Block → Bool) (q r : ℕ → List Block) (n : ℕ) → ((k : ℕ) → k < n → r k ≡ q k) → held f r n ≡ held f q n
unfolding held
held_same f q r zero h = refl
held_same f q r (suc n) h =
    let i = held_same f q r n (λ k l. h k (omega arith)) in
    let j : count f (r n) ≡ count f (q n) = ap (count f) (h n (omega arith)) in
    omega arith

-- one queue changed
held_one : (f : Block → Bool) (q r : ℕ → List Block) (c n : ℕ) → c < n → ((k : ℕ) → (k ≡ c → ⊥) → r k ≡ q k) →
    held f r n + count f (q c) ≡ held f q n + count f (r c)
unfolding held
held_one f q r c zero l h = absurd (omega arith)
held_one f q r c (suc n) l h = ⊎_elim last (λ o. before o (λ m. held_one f q r c n m h)) (cases_eq c n)
  where
    last : c ≡ n → held f r (suc n) + count f (q c) ≡ held f q (suc n) + count f (r c)
    last p =
        let i = held_same f q r n (λ k m. h k (λ e. omega arith)) in
        let a : count f (q c) ≡ count f (q n) = ap (λ (k : ℕ). count f (q k)) p in
        let b : count f (r c) ≡ count f (r n) = ap (λ (k : ℕ). count f (r k)) p in
        omega arith

    before : (c ≡ n → ⊥) → (c < n → held f r n + count f (q c) ≡ held f q n + count f (r c)) →
        held f r (suc n) + count f (q c) ≡ held f q (suc n) + count f (r c)
    before o below =
        let i = below (omega arith) in
        let j : count f (r n) ≡ count f (q n) = ap (count f) (h n (λ e. o (sym e))) in
        omega arith

-- two queues changed
held_two : (f : Block → Bool) (q r : ℕ → List Block) (c e n : ℕ) → c < n → e < n → (c ≡ e → ⊥) →
    ((k : ℕ) → (k ≡ c → ⊥) → (k ≡ e → ⊥) → r k ≡ q k) →
    held f r n + count f (q c) + count f (q e) ≡ held f q n + count f (r c) + count f (r e)
held_two f q r c e n l m o h =
    let i = held_one f q (at c (r c) q) c n l (λ k d. at_other c (r c) q k d) in
    let j = held_one f (at c (r c) q) r e n m (λ k d. ⊎_elim (λ p. ap r p ∙ sym (at_same c (r c) q) ∙ sym (ap (at c (r c) q) p)) (λ p. h k p d ∙ sym (at_other c (r c) q k p)) (cases_eq k c)) in
    let a : count f (at c (r c) q c) ≡ count f (r c) = ap (count f) (at_same c (r c) q) in
    let b : count f (at c (r c) q e) ≡ count f (q e) = ap (count f) (at_other c (r c) q e (λ p. o (sym p))) in
    omega arith

abbrev Whole : Net → List Block → State → Type 0
Whole z xs s = (f : Block → Bool) → held f s.queue (channels z) + count f (blocks s.came) ≡ count f xs

held_none : (f : Block → Bool) (n : ℕ) → held f (λ c. []) n ≡ 0
unfolding held count
held_none f zero = refl
held_none f (suc n) = let i = held_none f n in omega arith

whole_enters : (z : Net) (xs : List Block) {b : Block} {s t : State} → Entered z b s t → Whole z xs s → Whole z (xs ++ (b ∷ [])) t
whole_enters z xs {b} {s} {t} m h f =
    let d = z.links + b.door in
    let i = held_one f s.queue t.queue d (channels z) (let l = m.door in omega arith) m.other in
    let j : count f (t.queue d) ≡ count f (s.queue d ++ (b ∷ [])) = ap (count f) m.here in
    let k = count_append f (s.queue d) (b ∷ []) in
    let u = count_append f xs (b ∷ []) in
    let v : count f (blocks t.came) ≡ count f (blocks s.came) = ap (λ (ks : List Came). count f (blocks ks)) m.came in
    let w = h f in
    omega arith

whole_hands : (z : Net) (xs : List Block) {c : ℕ} {b : Block} {bs : List Block} {s t : State} → Handed z c b bs s t → Whole z xs s → Whole z xs t
whole_hands z xs {c} {b} {bs} {s} {t} m h f =
    let i = held_one f s.queue t.queue c (channels z) m.channel m.other in
    let j : count f (t.queue c) ≡ count f bs = ap (count f) m.here in
    let u : count f (s.queue c) ≡ count f (b ∷ bs) = ap (count f) m.first in
    let a = count_cons f b bs in
    let v : count f (blocks t.came) ≡ count f (blocks s.came ++ (b ∷ [])) = ap (count f) (handed_blocks m) in
    let y = count_append f (blocks s.came) (b ∷ []) in
    let w = h f in
    omega arith

whole_moves : (z : Net) (xs : List Block) {e c : ℕ} {b : Block} {bs : List Block} {s t : State} → Moved z e c b bs s t → Whole z xs s → Whole z xs t
whole_moves z xs {e} {c} {b} {bs} {s} {t} m h f =
    let i = held_two f s.queue t.queue c e (channels z) m.channel (let l = m.link in omega arith) (apart z c e m.rank) m.other in
    let j : count f (t.queue c) ≡ count f bs = ap (count f) m.from in
    let u : count f (s.queue c) ≡ count f (b ∷ bs) = ap (count f) m.first in
    let a = count_cons f b bs in
    let r : count f (t.queue e) ≡ count f (s.queue e ++ (b ∷ [])) = ap (count f) m.to in
    let y = count_append f (s.queue e) (b ∷ []) in
    let v : count f (blocks t.came) ≡ count f (blocks s.came) = ap (λ (ks : List Came). count f (blocks ks)) m.came in
    let w = h f in
    omega arith

whole_kept : (z : Net) → Kept z (Whole z)
unfolding count blocks
whole_kept z = record {
  begins = λ f. let i = held_none f (channels z) in omega arith;
  enters = λ {xs} m h. whole_enters z xs m h;
  counts = λ h. h;
  hands = λ {xs} m h. whole_hands z xs m h;
  moves = λ {xs} m h. whole_moves z xs m h;
}

pub conserved : Conserved
conserved z g vs o = always z g (Whole z) (whole_kept z) vs o
