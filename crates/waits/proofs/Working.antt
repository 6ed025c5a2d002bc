-- Patience place by place, and a list of patiences slot by slot. Assumes nothing.
use Rattle.std.proofs.Common.{◌≡◌, ℕ, zero, suc, ◌+◌, ◌*◌, ◌<◌, ◌≤◌, max, Bool, true, cond, ◌⊎◌, List, length, get_or, set, sym, refl, ap, ◌∙◌, subst, inl, inr, ⊎_elim, mul-le-mul_right, add-one, arith}
use native.Mathlib.Nat.{le-max_left, le-max_right, max_comm, max-eq_left, max-eq_right, max-le}
use Rattle.std.proofs.lemmas.List.{length-set, get_or-set_same, get_or-set_other}
use Rattle.std.proofs.lemmas.Bool.{eq-eqb, cases_eq, cases_lt, or_left, or_right}
use Rattle.net.specs.declared.Entry.{Entry}
use Rattle.net.specs.declared.Entry.TheVariants.{Here, Link}
use Rattle.net.specs.Net.{Net, Good, channels, is_to}
use Rattle.machine.specs.Waits.{feeds, feeders, by_entry, worst, within, patience}
use Rattle.waits.specs.Laws.{share, Largest, LargestLaw}
use Rattle.waits.specs.Working.{longest, Partly, Stays}
use Rattle.waits.proofs.Fuel.{patience_law}

pub worst_some : (z : Net) (f : ℕ → ℕ) (c n : ℕ) → 1 ≤ worst z f c n
unfolding worst
worst_some z f c zero = omega arith
worst_some z f c (suc n) =
    let i = worst_some z f c n in let j = le-max_right (by_entry 1 f (z.next c n)) (worst z f c n) in omega arith

pub worst_here : (z : Net) (f : ℕ → ℕ) (c p : ℕ) → z.next c p ≡ Here → worst z f c (p + 1) ≡ worst z f c p
unfolding worst
worst_here z f c p q =
    rw (add-one p)
    (ap (λ (x : Entry). max (by_entry 1 f x) (worst z f c p)) q ∙ max-eq_right (worst_some z f c p))

pub worst_over : (z : Net) (f : ℕ → ℕ) (c p e : ℕ) → z.next c p ≡ Link e → worst z f c (p + 1) ≡ max (worst z f c p) (f e)
unfolding worst
worst_over z f c p e q =
    rw (add-one p)
    (ap (λ (x : Entry). max (by_entry 1 f x) (worst z f c p)) q ∙ max_comm (f e) (worst z f c p))

worst_at : (z : Net) (f : ℕ → ℕ) (c n p e : ℕ) → p < n → z.next c p ≡ Link e → f e ≤ worst z f c n
unfolding worst
worst_at z f c zero p e l q = absurd (omega arith)
worst_at z f c (suc n) p e l q = ⊎_elim
    (λ s.
    let r : by_entry 1 f (z.next c n) ≡ f e = ap (λ (j : ℕ). by_entry 1 f (z.next c j)) (sym s) ∙ ap (by_entry 1 f) q in
    let k = le-max_left (by_entry 1 f (z.next c n)) (worst z f c n) in omega arith)
    (λ s.
    let i : f e ≤ worst z f c n = worst_at z f c n p e (omega arith) q in
    let k = le-max_right (by_entry 1 f (z.next c n)) (worst z f c n) in omega arith)
    (cases_eq p n)

pub patience_some : (z : Net) (c : ℕ) → 0 < patience z c
unfolding within
patience_some z c = let i = worst_some z (λ e. feeders z e (channels z) * within z.links z e) c z.places in omega arith

feeds_some : (z : Net) (c n p e : ℕ) → p < n → z.next c p ≡ Link e → feeds z e c n ≡ true
unfolding feeds
feeds_some z c zero p e l q = absurd (omega arith)
feeds_some z c (suc n) p e l q = ⊎_elim
    (λ s. or_left (is_to e (z.next c n)) (feeds z e c n)
    (ap (λ (j : ℕ). is_to e (z.next c j)) (sym s) ∙ (ap (is_to e) q ∙ eq-eqb e e refl)))
    (λ s. or_right (is_to e (z.next c n)) (feeds z e c n) (feeds_some z c n p e (omega arith) q))
    (cases_eq p n)

feeders_some : (z : Net) (e c n : ℕ) → c < n → feeds z e c z.places ≡ true → 1 ≤ feeders z e n
unfolding feeders
feeders_some z e c zero l t = absurd (omega arith)
feeders_some z e c (suc n) l t = ⊎_elim
    (λ s.
    let u : feeds z e n z.places ≡ true = ap (λ (j : ℕ). feeds z e j z.places) (sym s) ∙ t in
    let w : ◌≡◌ {A = ℕ} (cond (feeds z e n z.places) 1 0) 1 = ap (λ (b : Bool). cond b 1 0) u in omega arith)
    (λ s. let i = feeders_some z e c n (omega arith) t in omega arith)
    (cases_eq c n)

-- what a link of the table asks is at most the patience
pub share_over : (z : Net) → Good z → (c p e : ℕ) → p < z.places → z.next c p ≡ Link e → share z e ≤ patience z c
share_over z g c p e l q = let k = worst_at z (share z) c z.places p e l q in let r = patience_law z g c in omega arith

-- and so is the link's own patience, since the channel is one of its feeders
pub patience_over : (z : Net) → Good z → (c p e : ℕ) → c < channels z → p < z.places → z.next c p ≡ Link e → patience z e ≤ patience z c
patience_over z g c p e m l q =
    let k = share_over z g c p e l q in
    let f = feeders_some z e c (channels z) m (feeds_some z c z.places p e l q) in
    let s : 1 * patience z e ≤ feeders z e (channels z) * patience z e = mul-le-mul_right (patience z e) f in
    omega arith

-- one place more, which the table sends over link e
pub share_step : (z : Net) (c p e n long x most new : ℕ) → z.next c p ≡ Link e → n ≡ feeders z e (channels z) → long ≡ patience z e →
    x ≡ n * long → x ≤ longest → most ≡ worst z (share z) c p → most ≤ longest → new ≡ max most x →
    (new ≡ worst z (share z) c (p + 1)) × (new ≤ longest)
share_step z c p e n long x most new q fed there is s was r h =
    let f : x ≡ share z e = cc in
    let w = worst_over z (share z) c p e q in
    let k : max most x ≤ longest = max-le r s in
    (cc, omega arith)

-- a slot is filled with its channel's patience
pub partly_set : (z : Net) (found : List ℕ) (c v : ℕ) → Partly z found → c < channels z → v ≡ patience z c → v ≤ longest → Partly z (set found c v)
partly_set z found c v k l q s = record {
  slots = length-set found c v ∙ k.slots;
  right = λ d m. ⊎_elim
      (λ t. subst (λ (j : ℕ). (get_or (set found c v) j 0 ≡ 0) ⊎ ((get_or (set found c v) j 0 ≡ patience z j) × (patience z j ≤ longest))) (sym t)
      (inr (get_or-set_same found c v 0 here ∙ q, omega arith)))
      (λ t. rw (get_or-set_other found c d v 0 t) (k.right d m))
      (cases_eq d c);
}
  where
    here : c < length found
    here = let i = k.slots in omega arith

pub stays_set : (found : List ℕ) (c v : ℕ) → c < length found → 0 < v → Stays found (set found c v)
stays_set found c v l s = λ d h. ⊎_elim
    (λ t. subst (λ (j : ℕ). 0 < get_or (set found c v) j 0) (sym t) (let i = get_or-set_same found c v 0 l in omega arith))
    (λ t. let i = get_or-set_other found c d v 0 t in omega arith)
    (cases_eq d c)

cases_le : (a b : ℕ) → (a ≤ b) ⊎ (b ≤ a)
cases_le a b = ⊎_elim (λ l. inl (omega arith)) (λ l. inr l) (cases_lt a b)

-- the worst over the places below n is the largest
worst_largest : (z : Net) (f : ℕ → ℕ) (c n : ℕ) → Largest z f c n (worst z f c n)
unfolding worst
worst_largest z f c zero = record { least = omega arith; each = λ p l. absurd (omega arith); reached = inl refl }
worst_largest z f c (suc n) = go (by_entry 1 f (z.next c n)) refl (worst z f c n) (worst_largest z f c n)
  where
    go : (x : ℕ) → by_entry 1 f (z.next c n) ≡ x → (w : ℕ) → Largest z f c n w → Largest z f c (suc n) (max x w)
    go x q w i = record {
      least = let a = i.least in let b = le-max_right x w in omega arith;
      each = λ p l. ⊎_elim
          (λ s.
          let a : by_entry 1 f (z.next c p) ≡ x = ap (λ (j : ℕ). by_entry 1 f (z.next c j)) s ∙ q in
          let b = le-max_left x w in omega arith)
          (λ s. let a = i.each p (omega arith) in let b = le-max_right x w in omega arith)
          (cases_eq p n);
      reached = ⊎_elim
          (λ s. let a : max x w ≡ w = max-eq_right s in
          ⊎_elim (λ v. inl (a ∙ v)) (λ v. inr (v.0, (let l = v.1 in omega arith), v.2 ∙ sym a)) i.reached)
          (λ s. let a : max x w ≡ x = max-eq_left s in inr (n, omega arith, q ∙ sym a))
          (cases_le x w);
    }

pub largest_law : LargestLaw
largest_law z g c = rw (patience_law z g c) (worst_largest z (share z) c z.places)
