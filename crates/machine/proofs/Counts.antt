-- The credits of a link are right and no store is overfilled, after every script. Assumes nothing.
use Rattle.std.proofs.Common.{◌≡◌, ℕ, suc, ◌+◌, ◌<◌, ltb, List, [], ◌∷◌, ◌++◌, length, ap, ⊎_elim, arith}
use Rattle.std.proofs.lemmas.List.{length_push}
use Rattle.std.proofs.lemmas.Bool.{cases_eq, lt-ltb, cond-true}
use Rattle.net.specs.declared.Block.{Block}
use Rattle.net.specs.Net.{Net, Good, channels}
use Rattle.machine.specs.Round.{State, Event, Orderly, after}
use Rattle.machine.specs.Promise.{CountRight, Fits}
use Rattle.machine.proofs.Steps.{Entered, Handed, Moved, Kept, always, holds_always}

-- credits and what stands in the store of a link make up its size
abbrev pub Balance : Net → State → Type 0
Balance z s = (e : ℕ) → e < z.links → s.free e + length (s.queue e) ≡ z.store

balance_enters : {z : Net} {b : Block} {s t : State} → Entered z b s t → Balance z s → Balance z t
balance_enters {s} {t} m h e l =
    let f : t.free e ≡ s.free e = m.free e in
    let q : length (t.queue e) ≡ length (s.queue e) = ap length (m.other e (λ p. omega arith)) in
    let k = h e l in omega arith

balance_hands : {z : Net} {c : ℕ} {b : Block} {bs : List Block} {s t : State} → Handed z c b bs s t → Balance z s → Balance z t
balance_hands {z} {c} {b} {bs} {s} {t} m h e l = ⊎_elim same other (cases_eq e c)
  where
    same : e ≡ c → t.free e + length (t.queue e) ≡ z.store
    same p =
        let i : c < z.links = omega arith in
        let f = m.credit i in
        let q : length (t.queue c) ≡ length bs = ap length m.here in
        let r : length (s.queue c) ≡ suc (length bs) = ap length m.first in
        let k = h c i in
        rw p (omega arith)

    other : (e ≡ c → ⊥) → t.free e + length (t.queue e) ≡ z.store
    other n =
        let f = m.free e n in
        let q : length (t.queue e) ≡ length (s.queue e) = ap length (m.other e n) in
        let k = h e l in omega arith

balance_moves : {z : Net} {e c : ℕ} {b : Block} {bs : List Block} {s t : State} → Moved z e c b bs s t → Balance z s → Balance z t
balance_moves {z} {e} {c} {b} {bs} {s} {t} m h k l = ⊎_elim from (λ n. ⊎_elim to (other n) (cases_eq k e)) (cases_eq k c)
  where
    from : k ≡ c → t.free k + length (t.queue k) ≡ z.store
    from p =
        let i : c < z.links = omega arith in
        let f = m.credit i in
        let q : length (t.queue c) ≡ length bs = ap length m.from in
        let r : length (s.queue c) ≡ suc (length bs) = ap length m.first in
        let u = h c i in
        rw p (omega arith)

    to : k ≡ e → t.free k + length (t.queue k) ≡ z.store
    to p =
        let f = m.debit in
        let q : length (t.queue e) ≡ length (s.queue e ++ (b ∷ [])) = ap length m.to in
        let r = length_push (s.queue e) b in
        let u = h e m.link in
        rw p (omega arith)

    other : (k ≡ c → ⊥) → (k ≡ e → ⊥) → t.free k + length (t.queue k) ≡ z.store
    other n o =
        let f = m.free k n o in
        let q : length (t.queue k) ≡ length (s.queue k) = ap length (m.other k n o) in
        let u = h k l in omega arith

pub balance_kept : (z : Net) → Kept z (λ xs s. Balance z s)
balance_kept z = record {
  begins = λ e l. let k = cond-true (ltb e z.links) z.store 0 (lt-ltb e z.links l) in omega arith;
  enters = balance_enters;
  counts = λ h. h;
  hands = balance_hands;
  moves = balance_moves;
}

pub count_right : CountRight
count_right z g vs o = always z g (λ xs s. Balance z s) (balance_kept z) vs o

pub fits : Fits
fits z g vs o e l = let k = count_right z g vs o e l in omega arith

-- the turn of a link is at a channel that is there, after every script
pub turned : (z : Net) → Good z → (vs : List Event) → Orderly z vs → (e : ℕ) → 0 < channels z → (after z vs).turn e < channels z
turned z g vs o = (holds_always z g (λ xs s. Balance z s) (balance_kept z) vs o).0
