-- What came was let in, and so is for a door and a place that are there. Assumes nothing.
use Rattle.std.proofs.Common.{◌≡◌, ℕ, ◌<◌, Bool, true, false, cond, not, ◌&&◌, ltb, ◌⊎◌, List, [], ◌∷◌, sym, refl, ap, ◌∙◌, inl, inr, ⊎_elim, arith}
use mathlib.Core.List.Memᴰ
use mathlib.Core.List.{Memᴰ}
use Rattle.std.proofs.lemmas.Bool.{and_from, and_parts, cases_Bool, cond-true, cond-false, lt-ltb, ltb-true}
use Rattle.net.specs.declared.Block.{Block}
use Rattle.net.specs.declared.Came.{Came}
use Rattle.net.specs.Net.{Net}
use Rattle.machine.specs.Promise.{ConservedAfter, blocks, count, entered}
use Rattle.machine.specs.Round.{Event, Enter, Round, Orderly, after}

-- no block passes a test that is false of each
none_pass : (f : Block → Bool) (bs : List Block) → ((b : Block) → Memᴰ b bs → f b ≡ false) → count f bs ≡ 0
unfolding count
none_pass f [] h = refl
none_pass f (b ∷ bs) h =
    let i = none_pass f bs (λ x m. h x (Memᴰ.tail m)) in
    let e : ◌≡◌ {A = ℕ} (cond (f b) 1 0) 0 = cond-false (f b) 1 0 (h b (Memᴰ.head refl)) in
    omega arith

some_pass : (f : Block → Bool) (b : Block) (bs : List Block) → Memᴰ b bs → f b ≡ true → 0 < count f bs
unfolding count
some_pass f b [] m e = absurd (Memᴰ.not-nil m)
some_pass f b (x ∷ bs) m e = go (λ (n : Memᴰ b bs). some_pass f b bs n e) (Memᴰ.cases_cons m)
  where
    go : (Memᴰ b bs → 0 < count f bs) → (b ≡ x) ⊎ Memᴰ b bs → 0 < count f (x ∷ bs)
    go i (inl q) = let c : ◌≡◌ {A = ℕ} (cond (f x) 1 0) 1 = cond-true (f x) 1 0 (sym (ap f q) ∙ e) in omega arith
    go i (inr n) = let k = i n in omega arith

of_came : (k : Came) (ks : List Came) → Memᴰ k ks → Memᴰ k.block (blocks ks)
unfolding blocks
of_came k [] m = absurd (Memᴰ.not-nil m)
of_came k (x ∷ ks) m = go (λ (n : Memᴰ k ks). of_came k ks n) (Memᴰ.cases_cons m)
  where
    go : (Memᴰ k ks → Memᴰ k.block (blocks ks)) → (k ≡ x) ⊎ Memᴰ k ks → Memᴰ k.block (blocks (x ∷ ks))
    go i (inl q) = Memᴰ.head (ap (λ (y : Came). y.block) q)
    go i (inr n) = Memᴰ.tail (i n)

of_events : (b : Block) (vs : List Event) → Memᴰ b (entered vs) → Memᴰ (Enter b) vs
unfolding entered
of_events b [] m = absurd (Memᴰ.not-nil m)
of_events b (Round ∷ vs) m = Memᴰ.tail (of_events b vs m)
of_events b (Enter x ∷ vs) m = go (λ (n : Memᴰ b (entered vs)). of_events b vs n) (Memᴰ.cases_cons m)
  where
    go : (Memᴰ b (entered vs) → Memᴰ (Enter b) vs) → (b ≡ x) ⊎ Memᴰ b (entered vs) → Memᴰ (Enter b) (Enter x ∷ vs)
    go i (inl q) = Memᴰ.head (ap Enter q)
    go i (inr n) = Memᴰ.tail (i n)

-- the block's door or place is not there
abbrev strays : Net → Block → Bool
strays z b = not (ltb b.door z.doors && ltb b.place z.places)

pub came_known : (z : Net) (vs : List Event) → Orderly z vs → ConservedAfter z vs → (k : Came) → Memᴰ k (after z vs).came →
    (k.block.door < z.doors) × (k.block.place < z.places)
came_known z vs o c k m = ⊎_elim
    (λ (t : (ltb k.block.door z.doors && ltb k.block.place z.places) ≡ true).
    let b = and_parts (ltb k.block.door z.doors) (ltb k.block.place z.places) t in
    (ltb-true k.block.door z.doors b.0, ltb-true k.block.place z.places b.1))
    (λ t.
    let p = some_pass (strays z) k.block (blocks (after z vs).came) (of_came k (after z vs).came m) (ap not t) in
    let n = none_pass (strays z) (entered vs)
    (λ b i. let w = o b (of_events b vs i) in
    ap not (and_from (ltb b.door z.doors) (ltb b.place z.places) (lt-ltb b.door z.doors w.0) (lt-ltb b.place z.places w.1))) in
    let e = c (strays z) in
    absurd (omega arith))
    (cases_Bool (ltb k.block.door z.doors && ltb k.block.place z.places))
