-- Every block stands in a channel of its road, and one that came was at the road's end; so it came to its place. Assumes nothing.
use Rattle.std.proofs.Common.{◌≡◌, ℕ, ◌+◌, ◌≤◌, List, [], ◌∷◌, sym, refl, ap, ◌∙◌, subst, ⊎_elim, arith}
use mathlib.Core.List.{Memᴰ}
use Rattle.std.specs.List.{AllByRecursion as All}
use Rattle.std.proofs.ByRecursion.{All-push}
use Rattle.std.proofs.lemmas.Bool.{cases_eq}
use Rattle.net.specs.declared.Block.{Block}
use Rattle.net.specs.declared.Came.{Came}
use Rattle.net.specs.declared.Entry.TheVariants.{Here, Link}
use Rattle.net.specs.Net.{Net, Good, Leads, there, along}
use Rattle.machine.specs.Round.{State, after}
use Rattle.machine.specs.Promise.{AtPlace}
use Rattle.machine.proofs.Steps.{Entered, Handed, Moved, Kept, always}

-- Going by the table from channel a, a block for place p comes through channel c.
pub data Reaches (z : Net) (p c : ℕ) : ℕ → Type 0 where
  itself : {a : ℕ} → a ≡ c → Reaches z p c a
  onward : {a e : ℕ} → z.next a p ≡ Link e → Reaches z p c e → Reaches z p c a

pub reaches_on : {z : Net} {p c a : ℕ} (e : ℕ) → Reaches z p c a → z.next c p ≡ Link e → Reaches z p e a
reaches_on {z} {p} e (itself q) n = onward (ap (λ (j : ℕ). z.next j p) q ∙ n) (itself refl)
reaches_on e (onward m r) n = onward m (reaches_on e r n)

pub reaches_rank : {z : Net} {p c a : ℕ} → Good z → Reaches z p c a → z.rank a ≤ z.rank c
reaches_rank {z} g (itself q) = let k = ap z.rank q in omega arith
reaches_rank {z} {p} g (onward {a} {e} m r) = let i = reaches_rank g r in let k = g.rises a p e m in omega arith

leads_reached : {z : Net} {p c a : ℕ} → Reaches z p c a → Leads z p a → Leads z p c
leads_reached {z} {p} (itself q) l = subst (λ (j : ℕ). Leads z p j) q l
leads_reached (onward m r) (there h q) = let x : ◌≡◌ {A = ℕ} 0 1 = cc in absurd (omega arith)
leads_reached {z} {p} (onward {e} m r) (along {e = f} n l) =
    let q : f ≡ e = cc in leads_reached r (subst (λ (j : ℕ). Leads z p j) q l)

leads_ends : {z : Net} {p c : ℕ} → Leads z p c → z.next c p ≡ Here → z.ends c ≡ p
leads_ends (there h q) n = q
leads_ends (along m l) n = let x : ◌≡◌ {A = ℕ} 0 1 = cc in absurd (omega arith)

-- b's road goes through channel c
abbrev pub OnRoad : Net → ℕ → Block → Type 0
OnRoad z c b = Reaches z b.place c (z.links + b.door)

-- k was handed over at the end of its road
abbrev AtEnd : Net → Came → Type 0
AtEnd z k = OnRoad z k.channel k.block × (z.next k.channel k.block.place ≡ Here)

pub record Roads (z : Net) (q : ℕ → List Block) (ks : List Came) : Type 0 where
  pub standing : (c : ℕ) → All (OnRoad z c) (q c)
  pub came : All (AtEnd z) ks

road_enters : {z : Net} {b : Block} {s t : State} → Entered z b s t → Roads z s.queue s.came → Roads z t.queue t.came
road_enters {z} {b} {s} {t} m h = record {
  standing = λ c. ⊎_elim (here c) (λ n. rw (m.other c n) (h.standing c)) (cases_eq c (z.links + b.door));
  came = rw m.came h.came;
}
  where
    here : (c : ℕ) → c ≡ z.links + b.door → All (OnRoad z c) (t.queue c)
    here c p = subst (λ (j : ℕ). All (OnRoad z j) (t.queue j)) (sym p)
        (rw m.here (All-push (OnRoad z (z.links + b.door)) (s.queue (z.links + b.door)) b (h.standing (z.links + b.door)) (itself refl)))

road_hands : {z : Net} {c : ℕ} {b : Block} {bs : List Block} {s t : State} → Handed z c b bs s t → Roads z s.queue s.came → Roads z t.queue t.came
road_hands {z} {c} {b} {bs} {s} {t} m h = record {
  standing = λ k. ⊎_elim (here k) (λ n. rw (m.other k n) (h.standing k)) (cases_eq k c);
  came = rw m.came (All-push (AtEnd z) s.came (record { block = b; channel = c; round = s.round }) h.came (first.0, m.next));
}
  where
    first : All (OnRoad z c) (b ∷ bs)
    first = rw m.first at (h.standing c)

    here : (k : ℕ) → k ≡ c → All (OnRoad z k) (t.queue k)
    here k p = subst (λ (j : ℕ). All (OnRoad z j) (t.queue j)) (sym p) (rw m.here first.1)

road_moves : {z : Net} {e c : ℕ} {b : Block} {bs : List Block} {s t : State} → Moved z e c b bs s t → Roads z s.queue s.came → Roads z t.queue t.came
road_moves {z} {e} {c} {b} {bs} {s} {t} m h = record {
  standing = λ k. ⊎_elim (from k) (λ n. ⊎_elim (to k) (λ o. rw (m.other k n o) (h.standing k)) (cases_eq k e)) (cases_eq k c);
  came = rw m.came h.came;
}
  where
    first : All (OnRoad z c) (b ∷ bs)
    first = rw m.first at (h.standing c)

    from : (k : ℕ) → k ≡ c → All (OnRoad z k) (t.queue k)
    from k p = subst (λ (j : ℕ). All (OnRoad z j) (t.queue j)) (sym p) (rw m.from first.1)

    to : (k : ℕ) → k ≡ e → All (OnRoad z k) (t.queue k)
    to k p = subst (λ (j : ℕ). All (OnRoad z j) (t.queue j)) (sym p)
        (rw m.to (All-push (OnRoad z e) (s.queue e) b (h.standing e) (reaches_on e first.0 m.next)))

pub road_kept : (z : Net) → Kept z (λ xs s. Roads z s.queue s.came)
road_kept z = record {
  begins = record { standing = λ c. tt; came = tt };
  enters = road_enters;
  counts = λ h. h;
  hands = road_hands;
  moves = road_moves;
}

all_member : {A : Type 0} (P : A → Type 0) (a : A) (xs : List A) → All P xs → Memᴰ a xs → P a
all_member P a [] h m = elim m [ ]
all_member P a (x ∷ xs) h (Memᴰ.head q) = subst P (sym q) h.0
all_member P a (x ∷ xs) h (Memᴰ.tail m) = all_member P a xs h.1 m

pub at_place : AtPlace
at_place z g vs o k m l =
    let h = all_member (AtEnd z) k (after z vs).came (always z g (λ xs s. Roads z s.queue s.came) (road_kept z) vs o).came m in
    leads_ends (leads_reached h.0 l) h.1
