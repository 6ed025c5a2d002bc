-- What the small steps of a net do, channel by channel, and one rule for all that holds after every script. Assumes nothing.
use Rattle.std.proofs.Common.{◌≡◌, ℕ, zero, suc, pred, ◌+◌, ◌<◌, ◌≤◌, true, eqb, ltb, List, [], ◌∷◌, ◌++◌, Some, None, Option, sym, refl, ap, ◌∙◌, subst, append_assoc, append-nil, arith}
use mathlib.Core.List.Memᴰ
use Rattle.std.specs.List.{AllByRecursion as All}
use Rattle.std.proofs.lemmas.Bool.{eq-eqb, ne_eqb, eqb-true, ltb-true, lt-ltb, cond-true, cond-false, cond_both}
use Rattle.net.specs.declared.Block.{Block}
use Rattle.net.specs.declared.Entry.{Entry}
use Rattle.net.specs.declared.Entry.TheVariants.{Here, Link}
use Rattle.net.specs.Heads.{tail_of}
use Rattle.net.specs.Net.{Net, Good, channels, is_here, is_to}
use Rattle.net.specs.Order.{order, insert_by, serving}
use Rattle.machine.specs.Round.{State, Event, Enter, Round, Orderly, start, at, firsts, following, enter, leave, comes, wants, deliver, all_handed, look, move, take, serve, all_served, counted, round, play, after}
use Rattle.machine.specs.Promise.{entered}

-- a table of values with one changed
pub at_same : {A : Type 0} (i : ℕ) (a : A) (f : ℕ → A) → at i a f i ≡ a
at_same i a f = cond-true (eqb i i) a (f i) (eq-eqb i i refl)

pub at_other : {A : Type 0} (i : ℕ) (a : A) (f : ℕ → A) (j : ℕ) → (j ≡ i → ⊥) → at i a f j ≡ f j
at_other i a f j n = cond-false (eqb j i) a (f j) (ne_eqb j i n)

-- Block b was let in.
pub record Entered (z : Net) (b : Block) (s t : State) : Type 0 where
  pub door : b.door < z.doors
  pub place : b.place < z.places
  pub here : t.queue (z.links + b.door) ≡ s.queue (z.links + b.door) ++ (b ∷ [])
  pub other : (k : ℕ) → (k ≡ z.links + b.door → ⊥) → t.queue k ≡ s.queue k
  pub free : (k : ℕ) → t.free k ≡ s.free k
  pub came : t.came ≡ s.came

-- Block b, the first of channel c, was handed over; bs stand behind it.
pub record Handed (z : Net) (c : ℕ) (b : Block) (bs : List Block) (s t : State) : Type 0 where
  pub channel : c < channels z
  pub first : s.queue c ≡ b ∷ bs
  pub next : z.next c b.place ≡ Here
  pub here : t.queue c ≡ bs
  pub other : (k : ℕ) → (k ≡ c → ⊥) → t.queue k ≡ s.queue k
  pub credit : c < z.links → t.free c ≡ s.free c + 1
  pub free : (k : ℕ) → (k ≡ c → ⊥) → t.free k ≡ s.free k
  pub came : t.came ≡ s.came ++ (record { block = b; channel = c; round = s.round } ∷ [])

-- Block b, the first of channel c, went over link e; bs stand behind it.
pub record Moved (z : Net) (e c : ℕ) (b : Block) (bs : List Block) (s t : State) : Type 0 where
  pub link : e < z.links
  pub channel : c < channels z
  pub rank : z.rank c < z.rank e
  pub first : s.queue c ≡ b ∷ bs
  pub next : z.next c b.place ≡ Link e
  pub from : t.queue c ≡ bs
  pub to : t.queue e ≡ s.queue e ++ (b ∷ [])
  pub other : (k : ℕ) → (k ≡ c → ⊥) → (k ≡ e → ⊥) → t.queue k ≡ s.queue k
  pub credit : c < z.links → t.free c ≡ s.free c + 1
  pub debit : t.free e + 1 ≡ s.free e
  pub free : (k : ℕ) → (k ≡ c → ⊥) → (k ≡ e → ⊥) → t.free k ≡ s.free k
  pub came : t.came ≡ s.came

pub apart : (z : Net) (a b : ℕ) → z.rank a < z.rank b → a ≡ b → ⊥
apart z a b l q = let r : z.rank a ≡ z.rank b = ap z.rank q in omega arith

does_enter : (z : Net) (b : Block) (s : State) → (b.door < z.doors) × (b.place < z.places) → Entered z b s (enter z b s)
does_enter z b s o =
    let d = z.links + b.door in
    record {
      door = o.0;
      place = o.1;
      here = at_same d (s.queue d ++ (b ∷ [])) s.queue;
      other = λ k n. at_other d (s.queue d ++ (b ∷ [])) s.queue k n;
      free = λ k. refl;
      came = refl;
    }

-- what leaving does to credits
leave_credit : (z : Net) (c : ℕ) (s : State) → c < z.links → (leave z c s).free c ≡ s.free c + 1
leave_credit z c s l =
    ap (λ (f : ℕ → ℕ). f c) (cond-true (ltb c z.links) (at c (s.free c + 1) s.free) s.free (lt-ltb c z.links l)) ∙
    at_same c (s.free c + 1) s.free

leave_free : (z : Net) (c : ℕ) (s : State) (k : ℕ) → (k ≡ c → ⊥) → (leave z c s).free k ≡ s.free k
leave_free z c s k n =
    cond_both (ltb c z.links) (at c (s.free c + 1) s.free) s.free (λ (f : ℕ → ℕ). f k ≡ s.free k)
    (λ t. at_other c (s.free c + 1) s.free k n) (λ t. refl)

leave_here : (z : Net) (c : ℕ) (s : State) (b : Block) (bs : List Block) → s.queue c ≡ b ∷ bs → (leave z c s).queue c ≡ bs
leave_here z c s b bs q = at_same c (tail_of (s.queue c)) s.queue ∙ ap tail_of q

leave_other : (z : Net) (c : ℕ) (s : State) (k : ℕ) → (k ≡ c → ⊥) → (leave z c s).queue k ≡ s.queue k
leave_other z c s k n = at_other c (tail_of (s.queue c)) s.queue k n

does_hand : (z : Net) (c : ℕ) (b : Block) (bs : List Block) (s : State) → c < channels z → s.queue c ≡ b ∷ bs → z.next c b.place ≡ Here →
    Handed z c b bs s (deliver z c s)
does_hand z c b bs s l q n = record {
  channel = l;
  first = q;
  next = n;
  here = leave_here z c s b bs q;
  other = λ k m. leave_other z c s k m;
  credit = leave_credit z c s;
  free = leave_free z c s;
  came = rw q;
}

does_move : (z : Net) → Good z → (e c : ℕ) (b : Block) (bs : List Block) (s : State) → c < channels z → s.queue c ≡ b ∷ bs →
    z.next c b.place ≡ Link e → 0 < s.free e → Moved z e c b bs s (move z e c s)
does_move z g e c b bs s l q n f =
    let t = leave z c s in
    let r = g.rises c b.place e n in
    let ne : e ≡ c → ⊥ = λ p. apart z c e r.1 (sym p) in
    let nc : c ≡ e → ⊥ = apart z c e r.1 in
    let fe : t.free e ≡ s.free e = leave_free z c s e ne in
    let de : (move z e c s).free e ≡ pred (t.free e) = at_same e (pred (t.free e)) t.free in
    let dp : pred (t.free e) + 1 ≡ s.free e = omega arith in
    record {
      link = r.0;
      channel = l;
      rank = r.1;
      first = q;
      next = n;
      from = at_other e (t.queue e ++ firsts (s.queue c)) t.queue c nc ∙ leave_here z c s b bs q;
      to = at_same e (t.queue e ++ firsts (s.queue c)) t.queue ∙
          (ap (λ (x : List Block). x ++ firsts (s.queue c)) (leave_other z c s e ne) ∙ ap (λ (x : List Block). s.queue e ++ firsts x) q);
      other = λ k m o. at_other e (t.queue e ++ firsts (s.queue c)) t.queue k o ∙ leave_other z c s k m;
      credit = λ h. at_other e (pred (t.free e)) t.free c nc ∙ leave_credit z c s h;
      debit = ap (λ (x : ℕ). x + 1) de ∙ dp;
      free = λ k m o. at_other e (pred (t.free e)) t.free k o ∙ leave_free z c s k m;
      came = refl;
    }

is_here_true : (n : Entry) → is_here n ≡ true → n ≡ Here
is_here_true Here h = refl
is_here_true (Link e) h = let x : ◌≡◌ {A = ℕ} 0 1 = cc in absurd (omega arith)

is_to_true : (e : ℕ) (n : Entry) → is_to e n ≡ true → n ≡ Link e
is_to_true e Here h = let x : ◌≡◌ {A = ℕ} 0 1 = cc in absurd (omega arith)
is_to_true e (Link f) h = ap Link (sym (eqb-true e f h))

-- the first block of a queue, with where it goes
abbrev pub Leading : Net → ℕ → Entry → List Block → Type 0
Leading z c n q = (b : Block) × (bs : List Block) × (q ≡ b ∷ bs) × (z.next c b.place ≡ n)

pub comes_leading : (z : Net) (c : ℕ) (q : List Block) → comes z c q ≡ true → Leading z c Here q
comes_leading z c [] h = let x : ◌≡◌ {A = ℕ} 0 1 = cc in absurd (omega arith)
comes_leading z c (b ∷ bs) h = (b, bs, refl, is_here_true (z.next c b.place) h)

pub wants_leading : (z : Net) (e c : ℕ) (q : List Block) → wants z e c q ≡ true → Leading z c (Link e) q
wants_leading z e c [] h = let x : ◌≡◌ {A = ℕ} 0 1 = cc in absurd (omega arith)
wants_leading z e c (b ∷ bs) h = (b, bs, refl, is_to_true e (z.next c b.place) h)

pub following_below : (z : Net) (c : ℕ) → 0 < channels z → following z c < channels z
following_below z c h = cond_both (ltb (c + 1) (channels z)) (c + 1) 0 (λ (n : ℕ). n < channels z) (λ t. ltb-true (c + 1) (channels z) t) (λ t. h)

-- what looking round finds
pub look_finds : (z : Net) (e : ℕ) (q : ℕ → List Block) (c k : ℕ) → c < channels z → (a : ℕ) → look z e q c k ≡ Some a →
    (a < channels z) × (wants z e a (q a) ≡ true)
unfolding look
look_finds z e q c zero l a h = let x : ◌≡◌ {A = ℕ} 0 1 = cc in absurd (omega arith)
look_finds z e q c (suc k) l a h =
    let on = look_finds z e q (following z c) k (following_below z c (omega arith)) a in
    cond_both (wants z e c (q c)) (Some c) (look z e q (following z c) k) (λ (o : Option ℕ). o ≡ Some a → (a < channels z) × (wants z e a (q a) ≡ true))
    (λ t p. let same : c ≡ a = cc in subst (λ (j : ℕ). (j < channels z) × (wants z e j (q j) ≡ true)) same (l, t))
    (λ f p. on p) h

all_insert : (P : ℕ → Type 0) (r : ℕ → ℕ) (e : ℕ) (xs : List ℕ) → P e → All P xs → All P (insert_by r e xs)
unfolding insert_by
all_insert P r e [] p h = (p, h)
all_insert P r e (x ∷ xs) p h =
    cond_both (ltb (r x) (r e)) (e ∷ x ∷ xs) (x ∷ insert_by r e xs) (All P) (λ t. (p, h)) (λ f. (h.0, all_insert P r e xs p h.1))

pub order_below : (r : ℕ → ℕ) (m n : ℕ) → n ≤ m → All (λ e. e < m) (order r n)
unfolding order
order_below r m zero l = tt
order_below r m (suc n) l = all_insert (λ e. e < m) r n (order r n) (omega arith) (order_below r m n (omega arith))

-- What P says of the blocks let in and of the state holds at the start and is kept by each small step.
pub record Kept (z : Net) (P : List Block → State → Type 0) : Type 0 where
  pub begins : P [] (start z)
  pub enters : {xs : List Block} {b : Block} {s t : State} → Entered z b s t → P xs s → P (xs ++ (b ∷ [])) t
  pub counts : {xs : List Block} {s : State} → P xs s → P xs (counted s)
  pub hands : {xs : List Block} {c : ℕ} {b : Block} {bs : List Block} {s t : State} → Handed z c b bs s t → P xs s → P xs t
  pub moves : {xs : List Block} {e c : ℕ} {b : Block} {bs : List Block} {s t : State} → Moved z e c b bs s t → P xs s → P xs t

module _ (z : Net) (g : Good z) (P : List Block → State → Type 0) (kept : Kept z P) where
  -- carried along: a turn is at a channel that is there
  abbrev pub Holds : List Block → State → Type 0
  Holds xs s = ((e : ℕ) → 0 < channels z → s.turn e < channels z) × P xs s

  pub hold_handed : (xs : List Block) (n : ℕ) (s : State) → n ≤ channels z → Holds xs s → Holds xs (all_handed z n s)
  unfolding all_handed
  hold_handed xs zero s l h = h
  hold_handed xs (suc n) s l h =
      let i = hold_handed xs n s (omega arith) h in
      let t = all_handed z n s in
      cond_both (comes z n (t.queue n)) (deliver z n t) t (Holds xs)
      (λ y. let f = comes_leading z n (t.queue n) y in (i.0, kept.hands (does_hand z n f.0 f.1 t (omega arith) f.2 f.3) i.1))
      (λ y. i)

  hold_taken : (xs : List Block) (e : ℕ) (s : State) (o : Option ℕ) → e < z.links → 0 < s.free e →
      look z e s.queue (s.turn e) (channels z) ≡ o → Holds xs s → Holds xs (take z e o s)
  hold_taken xs e s None l f q h = h
  hold_taken xs e s (Some c) l f q h =
      let w = look_finds z e s.queue (s.turn e) (channels z) (h.0 e (omega arith)) c q in
      let b = wants_leading z e c (s.queue c) w.1 in (
        λ k m. cond_both (eqb k e) (following z c) (s.turn k) (λ (n : ℕ). n < channels z) (λ y. following_below z c m) (λ y. h.0 k m),
        kept.moves (does_move z g e c b.0 b.1 s w.0 b.2 b.3 f) h.1,
      )

  pub hold_served : (xs : List Block) (es : List ℕ) (s : State) → All (λ e. e < z.links) es → Holds xs s → Holds xs (all_served z es s)
  unfolding all_served
  hold_served xs [] s a h = h
  hold_served xs (e ∷ es) s a h =
      let o = look z e s.queue (s.turn e) (channels z) in
      hold_served xs es (serve z e s) a.1
      (cond_both (ltb 0 (s.free e)) (take z e o s) s (Holds xs)
      (λ y. hold_taken xs e s o a.0 (ltb-true 0 (s.free e) y) refl h)
      (λ y. h))

  hold_round : (xs : List Block) (s : State) → Holds xs s → Holds xs (round z s)
  hold_round xs s h =
      hold_served xs (serving z) (all_handed z (channels z) (counted s)) (order_below z.rank z.links z.links (omega arith))
      (hold_handed xs (channels z) (counted s) (omega arith) (h.0, kept.counts h.1))

  hold_played : (xs : List Block) (vs : List Event) (s : State) → Orderly z vs → Holds xs s → Holds (xs ++ entered vs) (play z vs s)
  unfolding play entered
  hold_played xs [] s o h = rw append-nil h
  hold_played xs (Enter b ∷ vs) s o h =
      rw append_assoc at (hold_played (xs ++ (b ∷ [])) vs (enter z b s) (λ a m. o a (Memᴰ.tail m))
      (h.0, kept.enters (does_enter z b s (o b (Memᴰ.head refl))) h.1))
  hold_played xs (Round ∷ vs) s o h = hold_played xs vs (round z s) (λ a m. o a (Memᴰ.tail m)) (hold_round xs s h)

  pub holds_always : (vs : List Event) → Orderly z vs → Holds (entered vs) (after z vs)
  holds_always vs o = hold_played [] vs (start z) o ((λ e m. m), kept.begins)

  -- The one rule: what is kept holds after every script.
  pub always : (vs : List Event) → Orderly z vs → P (entered vs) (after z vs)
  always vs o = (holds_always vs o).1
