-- Where the things of a script lead. Assumes nothing.
use Rattle.std.proofs.Common.{◌≡◌, ℕ, ◌+◌, ◌<◌, ◌≤◌, leb, ◌⊎◌, List, [], ◌∷◌, ◌++◌, length, get_or, drop, replicate, Some, None, Ok, Option, sym, refl, ap, ◌∙◌, subst, inl, inr, ⊎_elim, arith}
use mathlib.Core.Path.{fun_ext}
use mathlib.Core.List.Memᴰ
use mathlib.Core.List.{Memᴰ}
use mathlib.Core.Logic.{∥∥₁_map}
use Rattle.std.proofs.lemmas.List.{get_or_past, get_or-replicate, length-replicate}
use Rattle.std.proofs.lemmas.Bool.{cases_lt, cond_both, leb-false}
use Rattle.net.specs.declared.Block.{Block as Parcel}
use Rattle.net.specs.Net.{Net}
use Rattle.machine.specs.Round.{State, Event, Enter, Round as Played, Orderly, after, play, start}
use Rattle.machine.proofs.Waiting.{play_append}
use Rattle.machine.proofs.Whole.{whole}
use Rattle.wire.specs.declared.fault.Fault.{Fault}
use Rattle.wire.specs.declared.script.Thing.{Thing}
use Rattle.wire.specs.declared.script.Thing.TheVariants.{Block, Word, Round, Show}
use Rattle.play.specs.Games.{Position, Comes, begun, onward, begin, parcel_fault, events, fault_of, play_thing}
use Rattle.wire.specs.Cables.{Cables}
use Rattle.wire.specs.Script.{thing_read}
use Rattle.plan.specs.Halls.{hall_net, read_hall}
use Rattle.plan.specs.Built.{Lays, Serving}
use Rattle.plan.specs.declared.hall.Hall.{Hall}
use Rattle.net.specs.Layout.{net_of}
use Rattle.play.specs.declared.game.Game.{Game}
use Rattle.play.specs.Standing.{Takes, net_of_game, position_of}
use Rattle.play.specs.Kept.{Course, Honest}
use Rattle.play.proofs.Entered.{came_known}
use Rattle.play.proofs.Rounds.{one_round}

never : {A : Type 0} (x : A) → Some x ≡ None → ⊥
never x q = let e : ◌≡◌ {A = ℕ} 0 1 = cc in omega arith

-- a block without a fault is for a door and a place that are there
pub block_known : (z : Net) (g : Position) (b : Parcel) → parcel_fault z g b ≡ None → (b.door < z.doors) × (b.place < z.places)
block_known z g b =
    cond_both (leb z.doors b.door) _ _ (λ (r : Option Fault). r ≡ None → (b.door < z.doors) × (b.place < z.places))
    (λ t q. absurd (never _ q))
    (λ f.
    cond_both (leb z.places b.place) _ _ (λ (r : Option Fault). r ≡ None → (b.door < z.doors) × (b.place < z.places))
    (λ t q. absurd (never _ q)) (λ h q. (leb-false z.doors b.door f, leb-false z.places b.place h)))

events_more : (ts us : List Thing) → events (ts ++ us) ≡ events ts ++ events us
unfolding events
events_more [] us = refl
events_more (Block b ∷ ts) us = ap (λ (vs : List Event). Enter b ∷ vs) (events_more ts us)
events_more (Word e ∷ ts) us = events_more ts us
events_more (Round ∷ ts) us = ap (λ (vs : List Event). Played ∷ vs) (events_more ts us)
events_more (Show ∷ ts) us = events_more ts us

-- what a thing does is what the machine does of it
does : (z : Net) (t : Thing) (g : Position) → (play_thing z t g).state ≡ play z (events (t ∷ [])) g.state
unfolding events play
does z (Block b) g = refl
does z (Word e) g = refl
does z Round g = refl
does z Show g = refl

pub comes_after : (z : Net) (bs : List ℕ) (i : ℕ) (ts : List Thing) (g : Position) → Comes z bs i ts g → g.state ≡ after z (events ts)
unfolding events play
comes_after z bs _ _ _ begun = refl
comes_after z bs _ _ _ (onward {i = i} {ts = ts} {t = t} {g = g} c l r f) =
    does z t g ∙ ap (play z (events (t ∷ []))) (comes_after z bs i ts g c)
    ∙ sym (ap (λ (vs : List Event). play z vs (start z)) (events_more ts (t ∷ [])) ∙ play_append z (events ts) (events (t ∷ [])) (start z))

one_orderly : (z : Net) (t : Thing) (g : Position) → fault_of z g t ≡ None → Orderly z (events (t ∷ []))
unfolding events
one_orderly z (Block b) g f a m =
    let e : a ≡ b = same (Memᴰ.eq_of_singleton m) in
    subst (λ (x : Parcel). (x.door < z.doors) × (x.place < z.places)) (sym e) (block_known z g b f)
  where
    same : Enter a ≡ Enter b → a ≡ b
    same q = cc
one_orderly z (Word e) g f a m = absurd (Memᴰ.not-nil m)
one_orderly z Round g f a m = let q = Memᴰ.eq_of_singleton m in let x : ◌≡◌ {A = ℕ} 0 1 = cc in absurd (omega arith)
one_orderly z Show g f a m = absurd (Memᴰ.not-nil m)

pub comes_orderly : (z : Net) (bs : List ℕ) (i : ℕ) (ts : List Thing) (g : Position) → Comes z bs i ts g → Orderly z (events ts)
unfolding events
comes_orderly z bs _ _ _ begun a m = absurd (Memᴰ.not-nil m)
comes_orderly z bs _ _ _ (onward {i = i} {ts = ts} {t = t} {g = g} c l r f) a m = ⊎_elim
    (λ (n : Memᴰ (Enter a) (events ts)). comes_orderly z bs i ts g c a n)
    (λ n. one_orderly z t g f a n)
    (Memᴰ.append_cases (events ts) (subst (λ (vs : List Event). Memᴰ (Enter a) vs) (events_more ts (t ∷ [])) m))

-- all is kept of what the things of a script led to
honest : (z : Net) (bs : List ℕ) (i : ℕ) (ts : List Thing) (g : Position) → Serving z → Comes z bs i ts g → Honest z ts g
honest z bs i ts g s c =
    let r = comes_after z bs i ts g c in
    let o = comes_orderly z bs i ts g c in
    let w = whole z s.good (events ts) o in
    record {
      reached = r;
      promised = w;
      at_place = λ k m.
          let n = subst (λ (t : State). Memᴰ k t.came) r m in
          let d = came_known z (events ts) o w.conserved k n in
          w.at_place k n (s.leads k.block.door k.block.place d.0 d.1);
    }

pub course_starts : (cs bs : List ℕ) (l : Cables) (z : Net) → read_hall cs ≡ Ok l → z ≡ hall_net l → Serving z → Course cs bs z 0 (begin z)
course_starts cs bs l z r e s = record {
  list = l;
  read = r;
  net = e;
  serves = s;
  things = [];
  comes = begun;
  honest = honest z bs 0 [] (begin z) s begun;
}

pub course_on : (cs bs : List ℕ) (z : Net) (i j : ℕ) (t : Thing) (g : Position) → i < length bs → thing_read i (drop i bs) ≡ Ok (t, j) → fault_of z g t ≡ None →
    Course cs bs z i g → Course cs bs z j (play_thing z t g)
course_on cs bs z i j t g l r f c =
    let n = onward c.comes l r f in
    record {
      list = c.list;
      read = c.read;
      net = c.net;
      serves = c.serves;
      things = c.things ++ (t ∷ []);
      comes = n;
      honest = honest z bs j (c.things ++ (t ∷ [])) (play_thing z t g) c.serves n;
    }

-- a thing counts at most one round
pub counts_one : (z : Net) (t : Thing) (g : Position) → (play_thing z t g).state.round ≤ g.state.round + 1
counts_one z (Block b) g = omega arith
counts_one z (Word e) g = omega arith
counts_one z Round g = let e = one_round z g.state in omega arith
counts_one z Show g = omega arith

-- two positions are the same if their parts are
pub same_position : (s t : State) (f h : ℕ → ℕ) → s ≡ t → f ≡ h → ◌≡◌ {A = Position} (record { state = s; fresh = f }) (record { state = t; fresh = h })
same_position s t f h p q = λ i. record { state = p i; fresh = q i }

pub all_zero : (xs : List ℕ) (n : ℕ) → xs ≡ replicate n 0 → ◌≡◌ {A = ℕ → ℕ} (λ d. get_or xs d 0) (λ d. 0)
all_zero xs n e = fun_ext (λ d. ap (λ (ys : List ℕ). get_or ys d 0) e ∙ go d (cases_lt d n))
  where
    go : (d : ℕ) → (d < n) ⊎ (n ≤ d) → ◌≡◌ {A = ℕ} (get_or (replicate n 0) d 0) 0
    go d (inl l) = get_or-replicate n d 0 0 l
    go d (inr l) = let k : length {A = ℕ} (replicate n 0) ≡ n = length-replicate n 0 in get_or_past (replicate n 0) d 0 (omega arith)

-- the first facts of a play
pub play_starts : (cs bs : List ℕ) (g : Game) (h : Hall) (z : Net) → Lays cs h → net_of h.bounds.plan.layout ≡ z → net_of_game g ≡ z → position_of g ≡ begin z →
    ((position_of g).state.round ≤ 0) × Course cs bs (net_of_game g) 0 (position_of g)
play_starts cs bs g h z (l, q, b) e n s =
    let k : (position_of g).state.round ≡ 0 = ap (λ (x : Position). x.state.round) s in
    let c : z ≡ hall_net l = sym e ∙ b.net in (
      omega arith,
      subst (λ (y : Net). Course cs bs y 0 (position_of g)) (sym n)
          (subst (λ (x : Position). Course cs bs z 0 x) (sym s) (course_starts cs bs l z q c (subst (λ (y : Net). Serving y) (sym c) b.serves))),
    )

-- and those after a thing
pub play_on : (cs bs : List ℕ) (g h : Game) (i j : ℕ) (t : Thing) → i < length bs → i < j → thing_read i (drop i bs) ≡ Ok (t, j) →
    fault_of (net_of_game g) (position_of g) t ≡ None → Takes t g (Ok tt) h → (position_of g).state.round ≤ i →
    ∥ Course cs bs (net_of_game g) i (position_of g) ∥₁ → ((position_of h).state.round ≤ j) × ∥ Course cs bs (net_of_game h) j (position_of h) ∥₁
play_on cs bs g h i j t l o q f w k c =
    let e : (position_of h).state.round ≡ (play_thing (net_of_game g) t (position_of g)).state.round = ap (λ (x : Position). x.state.round) w.after in
    let m = counts_one (net_of_game g) t (position_of g) in (
      omega arith,
      ∥∥₁_map c (λ v.
          subst (λ (y : Net). Course cs bs y j (position_of h)) (sym w.net)
          (subst (λ (x : Position). Course cs bs (net_of_game g) j x) (sym w.after) (course_on cs bs (net_of_game g) i j t (position_of g) l q f v))),
    )
