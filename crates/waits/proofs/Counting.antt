-- Counting feeders channel by channel, and a channel place by place. Assumes nothing.
use Rattle.std.proofs.Common.{◌≡◌, ℕ, zero, suc, ◌+◌, ◌<◌, ◌≤◌, Bool, true, false, cond, ◌||◌, List, length, Option, Some, None, get_or, set, replicate, sym, refl, ap, ◌∙◌, subst, ⊎_elim, add-one, arith}
use Rattle.std.proofs.lemmas.List.{length-set, length-replicate, get_or_read, get_or-replicate, get_or-set_same, get_or-set_other}
use Rattle.std.proofs.lemmas.Bool.{eq-eqb, ne_eqb, cases_eq}
use Rattle.net.specs.declared.Entry.TheVariants.{Here, Link}
use Rattle.net.specs.Net.{Net, channels}
use Rattle.machine.specs.Waits.{feeds, feeders}
use Rattle.waits.specs.declared.feeders.Feeders.{Feeders}
use Rattle.waits.specs.Feeding.{none, is_last, with, Counts, Counted, Fed}

one_most : (b : Bool) → cond b 1 0 ≤ 1
one_most true = omega arith
one_most false = omega arith

pub feeders_most : (z : Net) (e n : ℕ) → feeders z e n ≤ n
unfolding feeders
feeders_most z e zero = omega arith
feeders_most z e (suc n) = let i = feeders_most z e n in let j = one_most (feeds z e n z.places) in omega arith

-- a link's count so far leaves room for one more
pub counts_small : (z : Net) (e c p : ℕ) (f : Feeders) → Counts z e c p f → f.number ≤ c + 1
counts_small z e c p f k =
    let q = k.number in let i = feeders_most z e c in let j = one_most (feeds z e c p) in omega arith

-- nothing is counted yet
pub counted_none : (z : Net) → Counted z 0 0 (replicate z.links none)
unfolding feeders feeds
counted_none z = record {
  slots = length-replicate z.links none;
  each = λ e l. subst (Counts z e 0 0) (sym (get_or-replicate z.links e none none l)) (record { number = refl; last = refl; early = λ k q. cc });
}

-- the last that was counted is none after c
not_later : (c : ℕ) (o : Option ℕ) → ((k : ℕ) → o ≡ Some k → k ≤ c) → is_last (suc c) o ≡ false
not_later c None l = refl
not_later c (Some k) l = let m = l k refl in ne_eqb k (suc c) (λ q. omega arith)

-- a whole channel is counted
counts_row : (z : Net) (e c : ℕ) (f : Feeders) → Counts z e c z.places f → Counts z e (suc c) 0 f
unfolding feeders feeds
counts_row z e c f k =
    record {
      number = (let q = k.number in omega arith);
      last = not_later c f.last k.early;
      early = λ i q. let l = k.early i q in omega arith;
    }

pub counted_row : (z : Net) (c : ℕ) (fs : List Feeders) → Counted z c z.places fs → Counted z (c + 1) 0 fs
counted_row z c fs k = rw (add-one c) record { slots = k.slots; each = λ e l. counts_row z e c (get_or fs e none) (k.each e l) }

-- what an entry leaves out feeds what the entries before it fed
counts_same : (z : Net) (e c p : ℕ) (f : Feeders) → feeds z e c (suc p) ≡ feeds z e c p → Counts z e c p f → Counts z e c (suc p) f
counts_same z e c p f q k = record { number = rw q k.number; last = rw q k.last; early = k.early }

-- an entry that says here feeds nothing
pub counted_here : (z : Net) (c p : ℕ) (fs : List Feeders) → z.next c p ≡ Here → Counted z c p fs → Counted z c (p + 1) fs
unfolding feeds
counted_here z c p fs q k = rw (add-one p) record { slots = k.slots; each = λ e l. counts_same z e c p (get_or fs e none) (rw q refl) (k.each e l) }

-- an entry that goes to link a feeds a and, for the rest, what the entries before it fed
feeds_a : (z : Net) (c p a : ℕ) → z.next c p ≡ Link a → feeds z a c (suc p) ≡ true
unfolding feeds
feeds_a z c p a q = rw q (ap (λ (b : Bool). b || feeds z a c p) (eq-eqb a a refl))

feeds_other : (z : Net) (c p a e : ℕ) → z.next c p ≡ Link a → (e ≡ a → ⊥) → feeds z e c (suc p) ≡ feeds z e c p
unfolding feeds
feeds_other z c p a e q n = rw q (ap (λ (b : Bool). b || feeds z e c p) (ne_eqb e a n))

counts_a : (z : Net) (c p a : ℕ) (f : Feeders) → z.next c p ≡ Link a → Counts z a c p f → Counts z a c (suc p) (with c f)
counts_a z c p a f q k = go (is_last c f.last) refl
  where
    fed : (n : ℕ) → n ≡ feeders z a c + 1 → n ≡ feeders z a c + cond (feeds z a c (suc p)) 1 0
    fed n s = rw (feeds_a z c p a q) s

    go : (b : Bool) → is_last c f.last ≡ b → Counts z a c (suc p) (cond b f (record { number = f.number + 1; last = Some c }))
    go true t = record {
      number = fed f.number (rw (sym (k.last) ∙ t) at k.number);
      last = t ∙ sym (feeds_a z c p a q);
      early = k.early;
    }
    go false t = record {
      number = fed (f.number + 1) (let n : f.number ≡ feeders z a c + 0 = rw (sym (k.last) ∙ t) at k.number in omega arith);
      last = eq-eqb c c refl ∙ sym (feeds_a z c p a q);
      early = λ i s. let e : c ≡ i = cc in omega arith;
    }

pub counted_over : (z : Net) (c p a : ℕ) (fs : List Feeders) → a < z.links → z.next c p ≡ Link a → Counted z c p fs → Counted z c (p + 1) (set fs a (with c (get_or fs a none)))
counted_over z c p a fs l q k = rw (add-one p) record {
  slots = length-set fs a (with c (get_or fs a none)) ∙ k.slots;
  each = λ e m. ⊎_elim
      (λ s. subst (λ (j : ℕ). Counts z j c (suc p) (get_or (set fs a (with c (get_or fs a none))) j none)) (sym s)
      (rw (get_or-set_same fs a (with c (get_or fs a none)) none here) (counts_a z c p a (get_or fs a none) q (k.each a l))))
      (λ s. rw (get_or-set_other fs a e (with c (get_or fs a none)) none s)
      (counts_same z e c p (get_or fs e none) (feeds_other z c p a e q s) (k.each e m)))
      (cases_eq e a);
}
  where
    here : a < length fs
    here = let i = k.slots in omega arith

-- all channels are counted
pub counted_all : (z : Net) (fs : List Feeders) → Counted z (channels z) 0 fs → Fed z fs
unfolding feeds
counted_all z fs k = record { slots = k.slots; number = λ e l. let q = (k.each e l).number in omega arith }

-- what a read of a slot finds
pub fed_read : (z : Net) (fs : List Feeders) → Fed z fs → (e : ℕ) (x : Feeders) → e < z.links → x ≡ get_or fs e x → x.number ≡ feeders z e (channels z)
fed_read z fs k e x l q =
    let i : e < length fs = let s = k.slots in omega arith in
    ap (λ (f : Feeders). f.number) (get_or_read fs e x i q none) ∙ k.number e l
