-- The order of serving is in the order of rank: each number below n stands at one position, the sooner served before.
use Rattle.std.proofs.Common.{◌≡◌, ℕ, zero, suc, ◌+◌, ◌-◌, ◌<◌, ◌≤◌, List, length, get_or, sym, refl, ap, ◌∙◌, subst, inl, inr, ⊎_elim, arith}
use Rattle.std.specs.List.{insert}
use Rattle.std.proofs.lemmas.List.Edits.{length-insert, get_or-insert_below, get_or-insert_at, get_or-insert_above}
use Rattle.std.proofs.lemmas.Bool.{cases_lt, cases_eq, cases_order}
use Rattle.net.specs.Order.{order, Before, Serves, InOrderOfRank}
use Rattle.net.specs.Position.{position}
use Rattle.net.proofs.Positions.{position_fits, insert_at, before_position, at_position}

-- Where position k of a list with one more at p comes from.
data From (es : List ℕ) (p e k v : ℕ) : Type 0 where
  below : k < p → v ≡ get_or es k 0 → From es p e k v
  here : k ≡ p → v ≡ e → From es p e k v
  above : (j : ℕ) → k ≡ j + 1 → p ≤ j → v ≡ get_or es j 0 → From es p e k v

from : (es : List ℕ) (p e k : ℕ) → p ≤ length es → From es p e k (get_or (insert es p e) k 0)
from es p e k f = ⊎_elim eq (⊎_elim lt gt) (cases_order k p)
  where
    eq : k ≡ p → From es p e k (get_or (insert es p e) k 0)
    eq q = here q (ap (λ (j : ℕ). get_or (insert es p e) j 0) q ∙ get_or-insert_at es p e 0 f)

    lt : k < p → From es p e k (get_or (insert es p e) k 0)
    lt h = below h (get_or-insert_below es p e 0 k h f)

    gt : p < k → From es p e k (get_or (insert es p e) k 0)
    gt h =
        let q : k ≡ (k - 1) + 1 = omega arith in
        above (k - 1) q (omega arith) (ap (λ (j : ℕ). get_or (insert es p e) j 0) q ∙ get_or-insert_above es p e 0 (k - 1) (omega arith) f)

-- the same numbers are served in the same order
same : (r : ℕ → ℕ) (a e v w : ℕ) → v ≡ a → w ≡ e → Before r a e → Before r v w
same r a e v w p q b =
    subst (λ (x : ℕ). Before r x w) (sym p) (subst (λ (y : ℕ). Before r a y) (sym q) b)

-- One more number, n, put in at its position.
module _ (r : ℕ → ℕ) (n : ℕ) (es : List ℕ) (s : Serves r n es) where
  abbrev more : List ℕ
  more = insert es (position r n es) n

  -- all from the position on are of lower rank
  lower : (k : ℕ) → position r n es ≤ k → k < n → r (get_or es k 0) < r n
  lower k h l = ⊎_elim past there (cases_lt (position r n es) k)
    where
      a : r (get_or es (position r n es) 0) < r n
      a = let z = s.size in at_position r n es (omega arith)

      past : position r n es < k → r (get_or es k 0) < r n
      past g = ⊎_elim (λ b. omega (arith, a, b)) (λ b. omega (arith, a, b.0)) (s.sorted (position r n es) k g l)

      there : k ≤ position r n es → r (get_or es k 0) < r n
      there g = let q : k ≡ position r n es = omega arith in subst (λ (j : ℕ). r (get_or es j 0) < r n) (sym q) a

  fits : position r n es ≤ length es
  fits = position_fits r n es

  within : (k v : ℕ) → k < suc n → From es (position r n es) n k v → v < suc n
  within k v l (below h q) = let z = s.size in let f = fits in let w = s.within k (omega arith) in omega arith
  within k v l (here h q) = omega arith
  within k v l (above j h g q) = let w = s.within j (omega arith) in omega arith

  -- a number that stood in the list stands in it one further on, or where it stood
  old : (e i : ℕ) → i < n → get_or es i 0 ≡ e → (k : ℕ) × (k < suc n) × (get_or more k 0 ≡ e)
  old e i l q = ⊎_elim
      (λ (h : i < position r n es). (i, omega arith, get_or-insert_below es (position r n es) n 0 i h fits ∙ q))
      (λ (h : position r n es ≤ i). (i + 1, omega arith, get_or-insert_above es (position r n es) n 0 i h fits ∙ q))
      (cases_lt i (position r n es))

  each : (e : ℕ) → e < suc n → (k : ℕ) × (k < suc n) × (get_or more k 0 ≡ e)
  each e l = ⊎_elim new (λ d. let o = s.each e (omega arith) in old e o.0 o.1 o.2) (cases_eq e n)
    where
      new : e ≡ n → (k : ℕ) × (k < suc n) × (get_or more k 0 ≡ e)
      new q = let z = s.size in let f = fits in (position r n es, omega arith, get_or-insert_at es (position r n es) n 0 fits ∙ sym q)

  -- a number that stands before the position is served before n
  ahead : (i : ℕ) → i < position r n es → Before r (get_or es i 0) n
  ahead i h =
      let b = before_position r n es i h in
      let z = s.size in
      let f = fits in
      let w = s.within i (omega arith) in
      ⊎_elim (λ (g : r n < r (get_or es i 0)). inl g) (λ (g : r (get_or es i 0) ≤ r n). inr (omega arith, w)) (cases_lt (r n) (r (get_or es i 0)))

  sorted : (i j v w : ℕ) → i < j → j < suc n → From es (position r n es) n i v → From es (position r n es) n j w → Before r v w
  sorted i j v w l m (below h q) (below g t) =
      let z = s.size in
      let f = fits in
      same r (get_or es i 0) (get_or es j 0) v w q t (s.sorted i j l (omega arith))
  sorted i j v w l m (below h q) (here g t) = same r (get_or es i 0) n v w q t (ahead i h)
  sorted i j v w l m (below h q) (above k g o t) =
      same r (get_or es i 0) (get_or es k 0) v w q t (s.sorted i k (omega arith) (omega arith))
  sorted i j v w l m (here h q) (below g t) = absurd (omega arith)
  sorted i j v w l m (here h q) (here g t) = absurd (omega arith)
  sorted i j v w l m (here h q) (above k g o t) =
      same r n (get_or es k 0) v w q t (inl (lower k o (omega arith)))
  sorted i j v w l m (above k h o q) (below g t) = absurd (omega arith)
  sorted i j v w l m (above k h o q) (here g t) = absurd (omega arith)
  sorted i j v w l m (above k h o q) (above k' g o' t) =
      same r (get_or es k 0) (get_or es k' 0) v w q t (s.sorted k k' (omega arith) (omega arith))

  -- with n put in, the list is the order of serving of the numbers up to n
  serves_more : Serves r (suc n) (insert es (position r n es) n)
  serves_more =
      record {
        size = (let z = s.size in let i = length-insert es (position r n es) n fits in omega arith);
        within = λ k l. within k _ l (from es (position r n es) n k fits);
        each = each;
        sorted = λ i j l m. sorted i j _ _ l m (from es (position r n es) n i fits) (from es (position r n es) n j fits);
      }

pub in_order_of_rank : InOrderOfRank
unfolding order
in_order_of_rank r zero =
    record {
      size = refl;
      within = λ i h. absurd (omega arith);
      each = λ e h. absurd (omega arith);
      sorted = λ i j l m. absurd (omega arith);
    }
in_order_of_rank r (suc n) =
    subst (λ (es : List ℕ). Serves r (suc n) es) (sym (insert_at r n (order r n))) (serves_more r n (order r n) (in_order_of_rank r n))
