-- Sets as the bits of one number: what is in a union, in a set of one, and when all of the first n are in. Assumes nothing.
use Rattle.std.proofs.Common.{◌≡◌, ℕ, suc, ◌+◌, ◌-◌, ◌*◌, ◌%◌, ◌^◌, ◌<◌, ◌≤◌, min, max, true, false, ◌||◌, eqb, sym, refl, ap, ◌∙◌, ⊎_elim, pow-suc, arith}
use lib.Bits.{bit_or, bit_and, and_mask}
use Rattle.std.specs.Int.{bit_at}
use Rattle.std.proofs.lemmas.Bool.{cases_lt, cases_eq, cases_Bool, eqb-true, eq-eqb, ne_eqb, both_ways}
use Rattle.std.proofs.lemmas.Nat.{pow_pos, one_shl}
use Rattle.std.proofs.lemmas.Nat.Bits.{bit_at_and, bit_at_or, bit_at-pow_same, bit_at-pow_other, bit_at_ones, bit_at_ones_above, bit_at-lt, bit_at_above, same_from_bits}
use Rattle.roads.specs.Numbers.{every}
use Rattle.roads.proofs.Below.{every_at, every_from}
use Rattle.graph.specs.Sets.{has}

max_bits : (a b : ℕ) → a < 2 → b < 2 → eqb (max a b) 1 ≡ (eqb a 1 || eqb b 1)
max_bits a b l m = ⊎_elim (λ (p : a < 1). low a b l m (omega arith)) (λ p. let q : a ≡ 1 = omega arith in let r : max a b ≡ 1 = omega arith in rw (r, q) refl) (cases_lt a 1)
  where
    low : (a b : ℕ) → a < 2 → b < 2 → a ≡ 0 → eqb (max a b) 1 ≡ (eqb a 1 || eqb b 1)
    low a b l m q = let r : max a b ≡ b = omega arith in rw (r, q) refl

pub has_or : (a b k : ℕ) → has (bit_or a b) k ≡ (has a k || has b k)
unfolding has
has_or a b k = ap (λ (v : ℕ). eqb v 1) (bit_at_or a b k) ∙ max_bits (bit_at a k) (bit_at b k) (bit_at-lt a k) (bit_at-lt b k)

-- nothing above the highest bit
pub has_past : (w k : ℕ) → w < 2 ^ k → has w k ≡ false
unfolding has
has_past w k l = ap (λ (v : ℕ). eqb v 1) (bit_at_above w k k l (omega arith))

pub has_word : (w k : ℕ) → w < 2 ^ 64 → 64 ≤ k → has w k ≡ false
unfolding has
has_word w k l h = ap (λ (v : ℕ). eqb v 1) (bit_at_above w 64 k l h)

-- a set of one
pub has_one : (s k : ℕ) → has (2 ^ s) k ≡ eqb s k
unfolding has
has_one s k = ⊎_elim
    (λ (q : k ≡ s). ap (λ (i : ℕ). eqb (bit_at (2 ^ s) i) 1) q ∙ ap (λ (v : ℕ). eqb v 1) (bit_at-pow_same s) ∙ sym (eq-eqb s k (sym q)))
    (λ q. ap (λ (v : ℕ). eqb v 1) (bit_at-pow_other s k q) ∙ sym (ne_eqb s k (λ e. q (sym e))))
    (cases_eq k s)

pub has_shl : (s k : ℕ) → s < 64 → has ((1 * 2 ^ s) % 2 ^ 64) k ≡ eqb s k
has_shl s k l = ap (λ (v : ℕ). has v k) (one_shl s 64 l) ∙ has_one s k

-- all of the first n are in just when the lowest n bits are ones
all_in : (n w : ℕ) → ((k : ℕ) → k < n → has w k ≡ true) → bit_and w (2 ^ n - 1) ≡ 2 ^ n - 1
unfolding has
all_in n w h = same_from_bits (bit_and w (2 ^ n - 1)) (2 ^ n - 1) each
  where
    each : (i : ℕ) → bit_at (bit_and w (2 ^ n - 1)) i ≡ bit_at (2 ^ n - 1) i
    each i = bit_at_and w (2 ^ n - 1) i ∙ ⊎_elim
        (λ (l : i < n). let a = bit_at_ones n i l in let b = eqb-true (bit_at w i) 1 (h i l) in omega arith)
        (λ l. let a = bit_at_ones_above n i l in omega arith) (cases_lt i n)

in_ones : (n w : ℕ) → bit_and w (2 ^ n - 1) ≡ 2 ^ n - 1 → (k : ℕ) → k < n → has w k ≡ true
unfolding has
in_ones n w h k l =
    let a : min (bit_at w k) (bit_at (2 ^ n - 1) k) ≡ bit_at (2 ^ n - 1) k = sym (bit_at_and w (2 ^ n - 1) k) ∙ ap (λ (v : ℕ). bit_at v k) h in
    let b = bit_at_ones n k l in
    let d = bit_at-lt w k in
    eq-eqb (bit_at w k) 1 (omega arith)

pub each_in : (n w : ℕ) → w % 2 ^ n ≡ 2 ^ n - 1 → (k : ℕ) → k < n → has w k ≡ true
each_in n w h = in_ones n w (and_mask w n ∙ h)

-- the test of code
pub full_test : (n w all : ℕ) → all ≡ 2 ^ n - 1 → eqb (bit_and w all) all ≡ every (has w) n
full_test n w all q = ⊎_elim yes₁ not₁ (cases_Bool (every (has w) n))
  where
    m : bit_and w all ≡ bit_and w (2 ^ n - 1)
    m = ap (bit_and w) q

    yes₁ : every (has w) n ≡ true → eqb (bit_and w all) all ≡ every (has w) n
    yes₁ e = eq-eqb (bit_and w all) all (m ∙ all_in n w (every_at (has w) n e) ∙ sym q) ∙ sym e

    not₁ : every (has w) n ≡ false → eqb (bit_and w all) all ≡ every (has w) n
    not₁ e = ne_eqb (bit_and w all) all (λ p. both_ways (every (has w) n) e (every_from (has w) n (in_ones n w (sym m ∙ p ∙ q)))) ∙ sym e

-- what code makes of one half and the other
pub ones_of : (n : ℕ) → 0 < n → n ≤ 64 → (1 * 2 ^ (n - 1)) % 2 ^ 64 - 1 + (1 * 2 ^ (n - 1)) % 2 ^ 64 ≡ 2 ^ n - 1
ones_of n l h =
    let a : (1 * 2 ^ (n - 1)) % 2 ^ 64 ≡ 2 ^ (n - 1) = one_shl (n - 1) 64 (omega arith) in
    let q : n ≡ suc (n - 1) = omega arith in
    let b : 2 ^ n ≡ 2 ^ (n - 1) * 2 = ap (λ (i : ℕ). 2 ^ i) q ∙ pow-suc 2 (n - 1) in
    let p = pow_pos (n - 1) in
    omega arith
