-- A link looked at from each state from which it may be taken. Assumes nothing.
use Rattle.std.proofs.Common.{◌≡◌, ℕ, suc, ◌+◌, ◌-◌, ◌%◌, ◌<◌, ◌≤◌, Bool, true, false, not, ◌&&◌, ◌||◌, eqb, ◌⊎◌, List, sym, refl, ap, ◌∙◌, subst, inl, inr, ⊎_elim, arith}
use lib.Bits.{bit_or}
use Rattle.std.specs.Int.Bits.{bit_xor}
use Rattle.std.specs.Int.{bit_at}
use Rattle.std.proofs.lemmas.Nat.Bits.{bit_at_xor, bit_at-lt}
use Rattle.std.proofs.lemmas.Bool.{eq-eqb, ne_eqb, cases_lt, cases_eq, and_from, and_left, and_right, not_from_true, not_from_false}
use Rattle.graph.specs.Graph.{Graph}
use Rattle.graph.specs.Sets.{has}
use Rattle.graph.proofs.Bits.{has_or}
use Rattle.tree.specs.Legal.{legal}
use Rattle.table.specs.declared.states.State.{State}
use Rattle.table.specs.Kept.{most}
use Rattle.table.specs.Cells.{state_of, Cell, Layer, Held, Relaxed}
use Rattle.table.proofs.Layering.{high_state, low_state, idle, untouched, looked}

-- what is new in a union is what was not there
either : (a b : ℕ) → a < 2 → b < 2 → eqb ((a + b) % 2) 1 ≡ ((eqb a 1 && not (eqb b 1)) || (not (eqb a 1) && eqb b 1))
either a b l h = go (digit a l) (digit b h)
  where
    digit : (n : ℕ) → n < 2 → (n ≡ 0) ⊎ (n ≡ 1)
    digit n o = ⊎_elim (λ (z : n < 1). inl (omega arith)) (λ z. inr (omega arith)) (cases_lt n 1)

    go : (a ≡ 0) ⊎ (a ≡ 1) → (b ≡ 0) ⊎ (b ≡ 1) → eqb ((a + b) % 2) 1 ≡ ((eqb a 1 && not (eqb b 1)) || (not (eqb a 1) && eqb b 1))
    go (inl p) (inl q) = rw (p, q) refl
    go (inl p) (inr q) = rw (p, q) refl
    go (inr p) (inl q) = rw (p, q) refl
    go (inr p) (inr q) = rw (p, q) refl

pub fresh_is : (a b p : ℕ) → has (bit_xor (bit_or a b) a) p ≡ (has b p && not (has a p))
unfolding has
fresh_is a b p =
    ap (λ (v : ℕ). eqb v 1) (bit_at_xor (bit_or a b) a p) ∙ either (bit_at (bit_or a b) p) (bit_at a p) (bit_at-lt (bit_or a b) p) (bit_at-lt a p)
    ∙ ap (λ (v : Bool). (v && not (eqb (bit_at a p) 1)) || (not v && eqb (bit_at a p) 1)) (has_or a b p) ∙ only (eqb (bit_at a p) 1) (eqb (bit_at b p) 1)
  where
    only : (x y : Bool) → (((x || y) && not x) || (not (x || y) && x)) ≡ (y && not x)
    only true true = refl
    only true false = refl
    only false true = refl
    only false false = refl

-- where state i stands
place_high : (n i : ℕ) → i < n → (state_of n i).1 ≡ i
place_high n i l = ap (λ (x : Bool × ℕ). x.1) (high_state n i l)

split_low : (n i : ℕ) → n ≤ i → i ≡ n + (i - n)
split_low n i l = omega arith

-- the sets that stand beside stay
pub held_on : (g : Graph) (up : ℕ → Bool) (j x y k : ℕ) (ss ss' : List State) → Relaxed g.n ss x y k ss' → Held g up j ss → Held g up j ss'
held_on g up j x y k ss ss' r h i p l o = ap (λ (v : ℕ). has v p) (r.before i) ∙ h i p l o

module _ (g : Graph) (up : ℕ → Bool) (j k : ℕ) (small : suc j < most g) (lk : k < g.links) (lf : g.from k < g.n) (lt : g.to k < g.n)
    (ss : List State) (held : Held g up j ss) where
  may_high : (legal g up).may (state_of g.n (g.from k)) k ≡ true
  may_high = ap (λ (x : Bool × ℕ). (legal g up).may x k) (high_state g.n (g.from k) lf) ∙ and_from (eqb (g.from k) (g.from k)) (true || not (up k)) (eq-eqb (g.from k) (g.from k) refl) refl

  may_low : up k ≡ false → (legal g up).may (state_of g.n (g.n + g.from k)) k ≡ true
  may_low e = ap (λ (x : Bool × ℕ). (legal g up).may x k) (low_state g.n (g.from k))
      ∙ and_from (eqb (g.from k) (g.from k)) (false || not (up k)) (eq-eqb (g.from k) (g.from k) refl) (not_from_false (up k) e)

  not_high : (i : ℕ) → i < g.n → (i ≡ g.from k → ⊥) → (legal g up).may (state_of g.n i) k ≡ false
  not_high i l ne = ap (λ (x : Bool × ℕ). (legal g up).may x k) (high_state g.n i l) ∙ and_left (eqb (g.from k) i) (true || not (up k)) (ne_eqb (g.from k) i (λ e. ne (sym e)))

  not_low : (s : ℕ) → (s ≡ g.from k → ⊥) → (legal g up).may (state_of g.n (g.n + s)) k ≡ false
  not_low s ne = ap (λ (x : Bool × ℕ). (legal g up).may x k) (low_state g.n s) ∙ and_left (eqb (g.from k) s) (false || not (up k)) (ne_eqb (g.from k) s (λ e. ne (sym e)))

  not_up : (s : ℕ) → up k ≡ true → (legal g up).may (state_of g.n (g.n + s)) k ≡ false
  not_up s e = ap (λ (x : Bool × ℕ). (legal g up).may x k) (low_state g.n s) ∙ and_right (eqb (g.from k) s) (false || not (up k)) (not_from_true (up k) e)

  pub look_up : (ss' : List State) → up k ≡ true → Relaxed g.n ss (g.from k) (g.to k) k ss' → Layer g up j k ss → Layer g up j (k + 1) ss'
  look_up ss' e r h i l = ⊎_elim at_it other (cases_eq i (g.from k))
    where
      lands : state_of g.n (g.to k) ≡ (up k, g.to k)
      lands = high_state g.n (g.to k) lt ∙ ap (λ (b : Bool). (b, g.to k)) (sym e)

      at_it : i ≡ g.from k → Cell g up j (k + 1) ss' i
      at_it q = subst (λ (m : ℕ). Cell g up j (k + 1) ss' m) (sym q)
          (looked g up j k ss ss' (g.from k) (g.to k) r small lk (omega arith) held lands may_high (h (g.from k) (omega arith)))

      other : (i ≡ g.from k → ⊥) → Cell g up j (k + 1) ss' i
      other ne = idle g up j k ss' i
          (⊎_elim (λ (o : i < g.n). not_high i o ne) (λ o. subst (λ (m : ℕ). (legal g up).may (state_of g.n m) k ≡ false) (sym (split_low g.n i o)) (not_up (i - g.n) e)) (cases_lt i g.n))
          (untouched g up j k ss ss' (g.from k) (g.to k) r k i ne (h i l))

  pub look_down : (ss' ss'' : List State) → up k ≡ false →
      Relaxed g.n ss (g.from k) (g.n + g.to k) k ss' →
      Relaxed g.n ss' (g.n + g.from k) (g.n + g.to k) k ss'' → Layer g up j k ss → Layer g up j (k + 1) ss''
  look_down ss' ss'' e r t h i l = ⊎_elim (λ o. high o (cases_eq i (g.from k))) (λ o. low o (cases_eq (i - g.n) (g.from k))) (cases_lt i g.n)
    where
      lands : state_of g.n (g.n + g.to k) ≡ (up k, g.to k)
      lands = low_state g.n (g.to k) ∙ ap (λ (b : Bool). (b, g.to k)) (sym e)

      held' : Held g up j ss'
      held' = held_on g up j (g.from k) (g.n + g.to k) k ss ss' r held

      high : i < g.n → (i ≡ g.from k) ⊎ (i ≡ g.from k → ⊥) → Cell g up j (k + 1) ss'' i
      high o (inl q) = untouched g up j k ss' ss'' (g.n + g.from k) (g.n + g.to k) t (k + 1) i (λ z. omega arith)
          (subst (λ (m : ℕ). Cell g up j (k + 1) ss' m) (sym q)
          (looked g up j k ss ss' (g.from k) (g.n + g.to k) r small lk (omega arith) held lands may_high (h (g.from k) (omega arith))))
      high o (inr ne) = untouched g up j k ss' ss'' (g.n + g.from k) (g.n + g.to k) t (k + 1) i (λ z. omega arith)
          (idle g up j k ss' i (not_high i o ne) (untouched g up j k ss ss' (g.from k) (g.n + g.to k) r k i ne (h i l)))

      low : g.n ≤ i → (i - g.n ≡ g.from k) ⊎ (i - g.n ≡ g.from k → ⊥) → Cell g up j (k + 1) ss'' i
      low o (inl q) =
          let b : i ≡ g.n + g.from k = omega arith in
          subst (λ (m : ℕ). Cell g up j (k + 1) ss'' m) (sym b)
          (looked g up j k ss' ss'' (g.n + g.from k) (g.n + g.to k) t small lk (omega arith) held' lands (may_low e)
          (untouched g up j k ss ss' (g.from k) (g.n + g.to k) r k (g.n + g.from k) (λ z. omega arith) (h (g.n + g.from k) (omega arith))))
      low o (inr ne) =
          untouched g up j k ss' ss'' (g.n + g.from k) (g.n + g.to k) t (k + 1) i (λ z. ne (omega arith))
          (idle g up j k ss' i (subst (λ (m : ℕ). (legal g up).may (state_of g.n m) k ≡ false) (sym (split_low g.n i o)) (not_low (i - g.n) ne))
          (untouched g up j k ss ss' (g.from k) (g.n + g.to k) r k i (λ z. omega arith) (h i l)))
