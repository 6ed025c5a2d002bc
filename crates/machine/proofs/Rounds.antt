-- What a round does, channel by channel: what goes, what stays, what is new, and how a link's turn and credits stand after it. Assumes the order of serving (InOrderOfRank).
use Rattle.std.proofs.Common.{◌≡◌, ℕ, zero, suc, pred, ◌+◌, ◌<◌, ◌≤◌, true, false, cond, ltb, ◌⊎◌, List, [], ◌∷◌, ◌++◌, length, get_or, Some, None, Option, sym, refl, ap, ◌∙◌, subst, inl, inr, ⊎_elim, append-nil, arith}
use mathlib.Core.List.Memᴰ
use mathlib.Core.List.{Memᴰ}
use Rattle.std.specs.List.{AllByRecursion as All}
use Rattle.std.proofs.lemmas.List.{nil_from_length}
use Rattle.std.proofs.ByRecursion.{All-from_get_or}
use Rattle.std.proofs.lemmas.Bool.{cond_both, ltb-false, cases_eq, cases_order, both_ways}
use Rattle.net.specs.declared.Block.{Block}
use Rattle.net.specs.declared.Came.{Came}
use Rattle.net.specs.declared.Entry.TheVariants.{Here, Link}
use Rattle.net.specs.Net.{Net, Good, channels}
use Rattle.net.specs.Order.{Before, Serves, InOrderOfRank, serving}
use Rattle.machine.specs.Round.{State, at, comes, wants, look, following, leave, deliver, handed_over, all_handed, move, take, serve, all_served, counted, round}
use Rattle.machine.proofs.Steps.{at_same, at_other}
use Rattle.machine.proofs.Looks.{wants_parts, comes_parts, Away, away, away_same, Found, following_below, look_finds, look_fails}
use Rattle.machine.proofs.Flows.{Flow, Flows, by_at, leave_free_other, handed, moved, lost_grows, lost_here, lost_none, lost_free, hand_flows, move_flows}

-- after channels 0 to n - 1 have handed over
record Handing (z : Net) (s m : State) (f : Flow) (n : ℕ) : Type 0 where
  flows : Flows z s m f
  fresh : (c : ℕ) → f.new c ≡ []
  still : (c : ℕ) → n ≤ c → f.gone c ≡ []
  waiting : (c : ℕ) → c < n → f.gone c ≡ [] → comes z c (s.queue c) ≡ false
  turn : (e : ℕ) → m.turn e ≡ s.turn e
  free : (e : ℕ) → e < z.links → m.free e ≡ s.free e + length (f.gone e)

-- a channel that lost nothing has what it had and then what is new
pub unmoved : (z : Net) (s m : State) (f : Flow) → Flows z s m f → (c : ℕ) → f.gone c ≡ [] → m.queue c ≡ s.queue c ++ f.new c
unmoved z s m f h c g = h.afterwards c ∙ ap (λ (x : List Block). x ++ f.new c) (ap (λ (x : List Block). x ++ f.kept c) (sym g) ∙ sym (h.before c))

hand_over : (z : Net) (s m : State) (f : Flow) (n : ℕ) → Handing z s m f n → (g : Flow) × Handing z s (handed_over z n m) g (suc n)
hand_over z s m f n h =
    cond_both (comes z n (m.queue n)) (deliver z n m) m (λ v. (g : Flow) × Handing z s v g (suc n)) (λ w. first w) (λ w. (f, none w))
  where
    none : comes z n (m.queue n) ≡ false → Handing z s m f (suc n)
    none w = record {
      flows = h.flows;
      fresh = h.fresh;
      still = λ c l. h.still c (omega arith);
      waiting = λ c l g. ⊎_elim (λ (e : c ≡ n). here c e g) (λ (e : c ≡ n → ⊥). h.waiting c (omega arith) g) (cases_eq c n);
      turn = h.turn;
      free = h.free;
    }
      where
        here : (c : ℕ) → c ≡ n → f.gone c ≡ [] → comes z c (s.queue c) ≡ false
        here c e g =
            let q : m.queue c ≡ s.queue c = unmoved z s m f h.flows c g ∙ ap (λ (x : List Block). s.queue c ++ x) (h.fresh c) ∙ append-nil (s.queue c) in
            ap (comes z c) (sym q) ∙ ap (λ (j : ℕ). comes z j (m.queue j)) e ∙ w

    first : comes z n (m.queue n) ≡ true → (g : Flow) × Handing z s (deliver z n m) g (suc n)
    first w =
        let p = comes_parts z n (m.queue n) w in
        on p.0 p.1 p.2 p.3
      where
        on : (b : Block) (bs : List Block) → m.queue n ≡ b ∷ bs → z.next n b.place ≡ Here → (g : Flow) × Handing z s (deliver z n m) g (suc n)
        on b bs q to =
            let k : Came = record { block = b; channel = n; round = m.round } in (
              handed n b bs k f,
              record {
                flows = hand_flows z s m f h.flows n b bs q (h.fresh n) k refl to;
                fresh = h.fresh;
                still = λ c l. at_other n (f.gone n ++ (b ∷ [])) f.gone c (λ e. omega arith) ∙ h.still c (omega arith);
                waiting = λ c l g. let r = lost_none z s m f h.flows n b bs q (h.fresh n) c g in h.waiting c (let a = r.1 in omega arith) r.0;
                turn = h.turn;
                free = λ e l. lost_free z s m f h.flows n b bs q (h.fresh n) e l (h.free e l);
              },
            )

abbrev nothing : State → Flow
nothing s = record { gone = λ c. []; kept = s.queue; new = λ c. []; over = [] }

hand_all : (z : Net) (s : State) (n : ℕ) → (f : Flow) × Handing z s (all_handed z n (counted s)) f n
unfolding all_handed
hand_all z s zero = (
  nothing s,
  record {
    flows = record {
      before = λ c. refl;
      afterwards = λ c. sym (append-nil (s.queue c));
      one = λ c. omega arith;
      source = λ e b i. absurd (Memᴰ.not-nil i);
      goes = λ e b i. absurd (Memᴰ.not-nil i);
      came = sym (append-nil s.came);
    };
    fresh = λ c. refl;
    still = λ c l. refl;
    waiting = λ c l. absurd (omega arith);
    turn = λ e. refl;
    free = λ e l. omega arith;
  },
)
hand_all z s (suc n) = let r = hand_all z s n in hand_over z s (all_handed z n (counted s)) r.0 n r.1

-- e took the first block of a channel that comes before c from its turn on, and its turn is after that channel
pub record Took (z : Net) (s m : State) (f : Flow) (e c : ℕ) : Type 0 where
  pub from : ℕ
  pub near : ℕ
  pub far : ℕ
  pub nearer : near < far
  pub short : far < channels z
  pub from_turn : Away z (s.turn e) from near
  pub here : Away z (s.turn e) c far
  pub channel : from < channels z
  pub block : Block
  pub lost : Memᴰ block (f.gone from)
  pub way : z.next from block.place ≡ Link e
  pub turned : m.turn e ≡ following z from

-- e had no credit, and nothing left it
pub record Full (z : Net) (s m : State) (f : Flow) (e : ℕ) : Type 0 where
  pub none : s.free e ≡ 0
  pub still : m.free e ≡ 0
  pub unmoved : f.gone e ≡ []
  pub turned : m.turn e ≡ s.turn e

-- why c lost nothing although its first block wants to go to e
abbrev pub Held : Net → State → State → Flow → ℕ → ℕ → Type 0
Held z s m f e c = Took z s m f e c ⊎ Full z s m f e

-- one of the links es has not been served yet that is c or has a higher rank than c
abbrev Open : Net → List ℕ → ℕ → Type 0
Open z es c = (e : ℕ) × (Memᴰ e es) × ((c ≡ e) ⊎ (z.rank c < z.rank e))

-- the links es in the order of serving
abbrev Sorted : Net → List ℕ → Type 0
Sorted z [] = Unit {0}
Sorted z (e ∷ es) = (e < z.links) × (All (Before z.rank e) es) × Sorted z es

-- when the links ds have been served, and es not yet
record Serving (z : Net) (s m : State) (f : Flow) (es ds : List ℕ) : Type 0 where
  flows : Flows z s m f
  fresh : (c : ℕ) → Open z es c → f.new c ≡ []
  waiting : (c : ℕ) → c < channels z → f.gone c ≡ [] → comes z c (s.queue c) ≡ false
  turns : (e : ℕ) → 0 < channels z → m.turn e < channels z
  turn : (e : ℕ) → Memᴰ e es → m.turn e ≡ s.turn e
  free : (e : ℕ) → Memᴰ e es → m.free e ≡ s.free e + length (f.gone e)
  closed : (e : ℕ) → Memᴰ e ds → Open z es e → ⊥
  each : (e : ℕ) → e < z.links → Memᴰ e es ⊎ Memᴰ e ds
  held : (e : ℕ) → Memᴰ e ds → (c : ℕ) → c < channels z → wants z e c (s.queue c) ≡ true → f.gone c ≡ [] → Held z s m f e c

open_tail : (z : Net) (e : ℕ) (es : List ℕ) (c : ℕ) → Open z es c → Open z (e ∷ es) c
open_tail z e es c o = (o.0, Memᴰ.tail o.1, o.2)

all_mem : (P : ℕ → Type 0) (es : List ℕ) (e : ℕ) → All P es → Memᴰ e es → P e
all_mem P [] e a m = absurd (Memᴰ.not-nil m)
all_mem P (x ∷ es) e a m = ⊎_elim (λ (i : e ≡ x). subst P (sym i) a.0) (λ (i : Memᴰ e es). all_mem P es e a.1 i) (Memᴰ.cases_cons m)

head_closed : (z : Net) (e : ℕ) (es : List ℕ) → All (Before z.rank e) es → Open z es e → ⊥
head_closed z e es a o = go (all_mem (Before z.rank e) es o.0 a o.1) o.2
  where
    go : Before z.rank e o.0 → (e ≡ o.0) ⊎ (z.rank e < z.rank o.0) → ⊥
    go (inl p) (inl q) = let k : z.rank e ≡ z.rank o.0 = ap z.rank q in omega arith
    go (inl p) (inr q) = omega arith
    go (inr p) (inl q) = omega arith
    go (inr p) (inr q) = omega arith

wants_append : (z : Net) (e c : ℕ) (q r : List Block) → wants z e c q ≡ true → wants z e c (q ++ r) ≡ true
wants_append z e c [] r h = absurd (let x : ◌≡◌ {A = ℕ} 0 1 = cc in omega arith)
wants_append z e c (b ∷ bs) r h = h

sorted_links : (z : Net) (es : List ℕ) (e : ℕ) → Sorted z es → Memᴰ e es → e < z.links
sorted_links z [] e a m = absurd (Memᴰ.not-nil m)
sorted_links z (x ∷ es) e a m =
    ⊎_elim (λ (i : e ≡ x). subst (λ (j : ℕ). j < z.links) (sym i) a.0) (λ (i : Memᴰ e es). sorted_links z es e a.2 i) (Memᴰ.cases_cons m)

module _ (z : Net) (good : Good z) (s m : State) (f : Flow) (e : ℕ) (es ds : List ℕ) (sorted : Sorted z (e ∷ es)) (h : Serving z s m f (e ∷ es) ds) where
  still_wants : (c : ℕ) → wants z e c (s.queue c) ≡ true → f.gone c ≡ [] → wants z e c (m.queue c) ≡ true
  still_wants c w g = ap (wants z e c) (unmoved z s m f h.flows c g) ∙ wants_append z e c (s.queue c) (f.new c) w

  not_later : (a : ℕ) → Memᴰ a es → a ≡ e → ⊥
  not_later a i k = head_closed z e es sorted.1 (a, i, inl (sym k))

  shifted : (a : ℕ) → a < z.links → Memᴰ a es ⊎ Memᴰ a (e ∷ ds)
  shifted a l = ⊎_elim
      (λ (i : Memᴰ a (e ∷ es)). ⊎_elim (λ (j : a ≡ e). inr (Memᴰ.head j)) (λ (j : Memᴰ a es). inl j) (Memᴰ.cases_cons i))
      (λ (i : Memᴰ a ds). inr (Memᴰ.tail i)) (h.each a l)

  shut : (a : ℕ) → Memᴰ a (e ∷ ds) → Open z es a → ⊥
  shut a i o = ⊎_elim
      (λ (j : a ≡ e). head_closed z e es sorted.1 (subst (λ (k : ℕ). Open z es k) j o))
      (λ (j : Memᴰ a ds). h.closed a j (open_tail z e es a o)) (Memᴰ.cases_cons i)

  -- e takes nothing
  passed_over : ((c : ℕ) → c < channels z → wants z e c (s.queue c) ≡ true → f.gone c ≡ [] → Held z s m f e c) → Serving z s m f es (e ∷ ds)
  passed_over k = record {
    flows = h.flows;
    fresh = λ c o. h.fresh c (open_tail z e es c o);
    waiting = h.waiting;
    turns = h.turns;
    turn = λ a i. h.turn a (Memᴰ.tail i);
    free = λ a i. h.free a (Memᴰ.tail i);
    closed = shut;
    each = shifted;
    held = λ a i c l w g. ⊎_elim
        (λ (j : a ≡ e). subst (λ (x : ℕ). Held z s m f x c) (sym j) (k c l (subst (λ (x : ℕ). wants z x c (s.queue c) ≡ true) j w) g))
        (λ (j : Memᴰ a ds). h.held a j c l w g) (Memᴰ.cases_cons i);
  }

  no_credit : m.free e ≡ 0 → Serving z s m f es (e ∷ ds)
  no_credit n = passed_over (λ c l w g.
      let k : m.free e ≡ s.free e + length (f.gone e) = h.free e (Memᴰ.head refl) in
      inr (record {
        none = omega arith;
        still = n;
        unmoved = nil_from_length (f.gone e) (omega arith);
        turned = h.turn e (Memᴰ.head refl);
      }))

  turn_below : m.turn e < channels z
  turn_below = let l = sorted.0 in h.turns e (omega arith)

  nobody : look z e m.queue (m.turn e) (channels z) ≡ None → Serving z s m f es (e ∷ ds)
  nobody n = passed_over (λ c l w g.
      let d = away z (m.turn e) c turn_below l in
      absurd (both_ways (wants z e c (m.queue c))
      (look_fails z e m.queue (channels z) (m.turn e) turn_below n c d.0 l d.2 d.1) (still_wants c w g)))

  took : (c : ℕ) → look z e m.queue (m.turn e) (channels z) ≡ Some c → (g : Flow) × Serving z s (move z e c m) g es (e ∷ ds)
  took c found =
      let r = look_finds z e m.queue (channels z) (m.turn e) c (omega arith) turn_below found in
      let p = wants_parts z e c (m.queue c) r.wanting in
      on r p.0 p.1 p.2 p.3
    where
      on : Found z e m.queue (m.turn e) (channels z) c → (b : Block) (bs : List Block) → m.queue c ≡ b ∷ bs → z.next c b.place ≡ Link e →
          (g : Flow) × Serving z s (move z e c m) g es (e ∷ ds)
      on r b bs q to = (
        moved e c b bs f,
        record {
          flows = move_flows z s m f h.flows c b bs q newless e r.channel (h.fresh e (e, Memᴰ.head refl, inl refl)) apart to;
          fresh = λ a o. at_other e (b ∷ []) f.new a (λ k. head_closed z e es sorted.1 (subst (λ (j : ℕ). Open z es j) k o)) ∙ h.fresh a (open_tail z e es a o);
          waiting = λ a l g. h.waiting a l (none a g).0;
          turns = λ a l. by_at e a (λ v. cond v (following z c) (m.turn a) < channels z) (λ k. following_below z c r.channel) (λ k. h.turns a l);
          turn = λ a i. at_other e (following z c) m.turn a (not_later a i) ∙ h.turn a (Memᴰ.tail i);
          free = λ a i. at_other e (pred ((leave z c m).free e)) (leave z c m).free a (not_later a i) ∙
              lost_free z s m f h.flows c b bs q newless a (sorted_links z es a sorted.2 i) (h.free a (Memᴰ.tail i));
          closed = shut;
          each = shifted;
          held = λ a i k l w g. ⊎_elim
              (λ (j : a ≡ e). subst (λ (x : ℕ). Held z s (move z e c m) (moved e c b bs f) x k) (sym j)
              (now k l (subst (λ (x : ℕ). wants z x k (s.queue k) ≡ true) j w) (none k g)))
              (λ (j : Memᴰ a ds). old a k j (h.held a j k l w (none k g).0)) (Memᴰ.cases_cons i);
        },
      )
        where
          rising : z.rank c < z.rank e
          rising = (good.rises c b.place e to).1

          newless : f.new c ≡ []
          newless = h.fresh c (e, Memᴰ.head refl, inr rising)

          apart : c ≡ e → ⊥
          apart k = let i : z.rank c ≡ z.rank e = ap z.rank k in let j = rising in omega arith

          none : (k : ℕ) → at c (f.gone c ++ (b ∷ [])) f.gone k ≡ [] → (f.gone k ≡ []) × (k ≡ c → ⊥)
          none = lost_none z s m f h.flows c b bs q newless

          old : (a k : ℕ) → Memᴰ a ds → Held z s m f a k → Held z s (move z e c m) (moved e c b bs f) a k
          old a k j (inl t) = inl (record {
            from = t.from;
            near = t.near;
            far = t.far;
            nearer = t.nearer;
            short = t.short;
            from_turn = t.from_turn;
            here = t.here;
            channel = t.channel;
            block = t.block;
            way = t.way;
            lost = lost_grows z s m f h.flows c b bs q newless t.from t.block t.lost;
            turned = at_other e (following z c) m.turn a (λ x. h.closed a j (e, Memᴰ.head refl, inl x)) ∙ t.turned;
          })
          old a k j (inr t) =
              let other : a ≡ e → ⊥ = λ x. h.closed a j (e, Memᴰ.head refl, inl x) in
              let off : a ≡ c → ⊥ = λ x. h.closed a j (e, Memᴰ.head refl, inr (subst (λ (y : ℕ). z.rank y < z.rank e) (sym x) rising)) in
              inr (record {
                none = t.none;
                still = at_other e (pred ((leave z c m).free e)) (leave z c m).free a other ∙ leave_free_other z c m a off ∙ t.still;
                unmoved = at_other c (f.gone c ++ (b ∷ [])) f.gone a off ∙ t.unmoved;
                turned = at_other e (following z c) m.turn a other ∙ t.turned;
              })

          now : (k : ℕ) → k < channels z → wants z e k (s.queue k) ≡ true → (f.gone k ≡ []) × (k ≡ c → ⊥) →
              Held z s (move z e c m) (moved e c b bs f) e k
          now k l w g = by_order (cases_order d.0 r.steps)
            where
              d : (d : ℕ) × (d < channels z) × Away z (m.turn e) k d
              d = away z (m.turn e) k turn_below l

              same_turn : m.turn e ≡ s.turn e
              same_turn = h.turn e (Memᴰ.head refl)

              by_order : (d.0 ≡ r.steps) ⊎ ((d.0 < r.steps) ⊎ (r.steps < d.0)) → Held z s (move z e c m) (moved e c b bs f) e k
              by_order (inl p) = absurd (g.1 (away_same z (m.turn e) k c r.steps l r.channel (subst (λ (x : ℕ). Away z (m.turn e) k x) p d.2) r.far))
              by_order (inr (inl p)) = absurd (both_ways (wants z e k (m.queue k)) (r.first k d.0 l d.2 p) (still_wants k w g.0))
              by_order (inr (inr p)) = inl (record {
                from = c;
                near = r.steps;
                far = d.0;
                nearer = p;
                short = d.1;
                from_turn = subst (λ (x : ℕ). Away z x c r.steps) same_turn r.far;
                here = subst (λ (x : ℕ). Away z x k d.0) same_turn d.2;
                channel = r.channel;
                block = b;
                lost = lost_here z s m f h.flows c b bs q newless;
                way = to;
                turned = at_same e (following z c) m.turn;
              })

  serve_one : (g : Flow) × Serving z s (serve z e m) g es (e ∷ ds)
  serve_one =
      cond_both (ltb 0 (m.free e)) (take z e (look z e m.queue (m.turn e) (channels z)) m) m (λ v. (g : Flow) × Serving z s v g es (e ∷ ds))
      (λ w. by_look (look z e m.queue (m.turn e) (channels z)) refl)
      (λ w. let n = ltb-false 0 (m.free e) w in (f, no_credit (omega arith)))
    where
      by_look : (o : Option ℕ) → look z e m.queue (m.turn e) (channels z) ≡ o → (g : Flow) × Serving z s (take z e o m) g es (e ∷ ds)
      by_look None p = (f, nobody p)
      by_look (Some c) p = took c p

serve_all : (z : Net) → Good z → (s m : State) (f : Flow) (es ds : List ℕ) → Sorted z es → Serving z s m f es ds →
    (g : Flow) × (done : List ℕ) × Serving z s (all_served z es m) g [] done
unfolding all_served
serve_all z good s m f [] ds sorted h = (f, ds, h)
serve_all z good s m f (e ∷ es) ds sorted h =
    let r = serve_one z good s m f e es ds sorted h in
    serve_all z good s (serve z e m) r.0 es (e ∷ ds) sorted.2 r.1

-- what a round does from s to t
pub record Passed (z : Net) (s t : State) (f : Flow) : Type 0 where
  pub flows : Flows z s t f
  pub waiting : (c : ℕ) → c < channels z → f.gone c ≡ [] → comes z c (s.queue c) ≡ false
  pub turns : (e : ℕ) → 0 < channels z → t.turn e < channels z
  pub held : (e : ℕ) → e < z.links → (c : ℕ) → c < channels z → wants z e c (s.queue c) ≡ true → f.gone c ≡ [] → Held z s t f e c

to_sorted : (z : Net) (es : List ℕ) → ((i : ℕ) → i < length es → get_or es i 0 < z.links) →
    ((i j : ℕ) → i < j → j < length es → Before z.rank (get_or es i 0) (get_or es j 0)) → Sorted z es
to_sorted z [] w b = tt
to_sorted z (e ∷ es) w b = (
  w 0 (omega arith),
  All-from_get_or (Before z.rank e) es 0 (λ i l. b 0 (suc i) (omega arith) (omega arith)),
  to_sorted z es (λ i l. w (suc i) (omega arith)) (λ i j k l. b (suc i) (suc j) (omega arith) (omega arith)),
)

get_d_mem : (es : List ℕ) (i : ℕ) → i < length es → Memᴰ (get_or es i 0) es
get_d_mem [] i l = absurd (omega arith)
get_d_mem (e ∷ es) zero l = Memᴰ.head refl
get_d_mem (e ∷ es) (suc i) l = Memᴰ.tail (get_d_mem es i (omega arith))

pub passes : InOrderOfRank → (z : Net) → Good z → (s : State) → ((e : ℕ) → 0 < channels z → s.turn e < channels z) → (f : Flow) × Passed z s (round z s) f
passes order z good s turns =
    let r = serve_all z good s (all_handed z (channels z) (counted s)) begun.0 (serving z) [] sorted beginning in (
      r.0,
      record {
        flows = r.2.flows;
        waiting = r.2.waiting;
        turns = r.2.turns;
        held = λ e l. r.2.held e (⊎_elim (λ (i : Memᴰ e []). absurd (Memᴰ.not-nil i)) (λ (i : Memᴰ e r.1). i) (r.2.each e l));
      },
    )
  where
    serves : Serves z.rank z.links (serving z)
    serves = order z.rank z.links

    sorted : Sorted z (serving z)
    sorted =
        let n = serves.size in
        to_sorted z (serving z) (λ i l. serves.within i (omega arith)) (λ i j k l. serves.sorted i j k (omega arith))

    begun : (f : Flow) × Handing z s (all_handed z (channels z) (counted s)) f (channels z)
    begun = hand_all z s (channels z)

    beginning : Serving z s (all_handed z (channels z) (counted s)) begun.0 (serving z) []
    beginning = record {
      flows = begun.1.flows;
      fresh = λ c o. begun.1.fresh c;
      waiting = begun.1.waiting;
      turns = λ e l. subst (λ (x : ℕ). x < channels z) (sym (begun.1.turn e)) (turns e l);
      turn = λ e i. begun.1.turn e;
      free = λ e i. begun.1.free e (sorted_links z (serving z) e sorted i);
      closed = λ e i o. Memᴰ.not-nil i;
      each = λ e l. let k = serves.each e l in let n = serves.size in
          inl (Memᴰ.cast (sym k.2) (get_d_mem (serving z) k.0 (let j = k.1 in omega arith)));
      held = λ e i. absurd (Memᴰ.not-nil i);
    }
