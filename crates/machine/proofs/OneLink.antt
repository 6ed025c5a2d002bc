-- In a round each block moves over at most one link; and what holds of every state that a script comes to. Assumes the order of serving (InOrderOfRank).
use Rattle.std.proofs.Common.{◌≡◌, ℕ, ◌+◌, ◌<◌, cond, List, [], ◌∷◌, ◌++◌, sym, refl, subst, ⊎_elim}
use mathlib.Core.List.{Memᴰ}
use Rattle.net.specs.declared.Block.{Block}
use Rattle.net.specs.Net.{Net, Good, channels}
use Rattle.net.specs.Order.{InOrderOfRank}
use Rattle.machine.specs.Round.{State, Event, Enter, Round, Orderly, start, enter, step, play, after, round}
use Rattle.machine.specs.Promise.{OneLink}
use Rattle.machine.proofs.Flows.{Flow, Flows, by_at}
use Rattle.machine.proofs.Rounds.{Passed, passes}

-- links look round from channels, and blocks are for places that are there
pub record Sound (z : Net) (s : State) : Type 0 where
  pub turns : (e : ℕ) → 0 < channels z → s.turn e < channels z
  pub placed : (c : ℕ) (b : Block) → Memᴰ b (s.queue c) → b.place < z.places

sound_start : (z : Net) → Sound z (start z)
sound_start z = record { turns = λ e l. l; placed = λ c b i. absurd (mathlib.Core.List.Memᴰ.not-nil i) }

sound_enter : (z : Net) (b : Block) (s : State) → b.place < z.places → Sound z s → Sound z (enter z b s)
sound_enter z b s l h = record {
  turns = h.turns;
  placed = λ c x. by_at (z.links + b.door) c
      (λ v. Memᴰ x (cond v (s.queue (z.links + b.door) ++ (b ∷ [])) (s.queue c)) → x.place < z.places)
      (λ e i. ⊎_elim (λ (j : Memᴰ x (s.queue (z.links + b.door))). h.placed (z.links + b.door) x j)
      (λ (j : Memᴰ x (b ∷ [])). subst (λ (y : Block). y.place < z.places) (sym (mathlib.Core.List.Memᴰ.eq_of_singleton j)) l)
      (mathlib.Core.List.Memᴰ.append_cases (s.queue (z.links + b.door)) i))
      (λ e i. h.placed c x i);
}

-- what stands in a channel after a round stood somewhere before it
stood : (z : Net) (s t : State) (f : Flow) → Flows z s t f → (c : ℕ) (b : Block) → Memᴰ b (t.queue c) → (a : ℕ) × Memᴰ b (s.queue a)
stood z s t f h c b i =
    ⊎_elim
    (λ (j : Memᴰ b (f.kept c)). (c, subst (λ (x : List Block). Memᴰ b x) (sym (h.before c)) (mathlib.Core.List.Memᴰ.append_right (f.gone c) j)))
    (λ (j : Memᴰ b (f.new c)). let r = h.source c b j in
    (r.0, subst (λ (x : List Block). Memᴰ b x) (sym (h.before r.0)) (mathlib.Core.List.Memᴰ.append_left (f.kept r.0) r.2)))
    (mathlib.Core.List.Memᴰ.append_cases (f.kept c) (subst (λ (x : List Block). Memᴰ b x) (h.afterwards c) i))

module _ (order : InOrderOfRank) (z : Net) (good : Good z) where
  sound_round : (s : State) → Sound z s → Sound z (round z s)
  sound_round s h =
      let r = passes order z good s h.turns in
      record {
        turns = r.1.turns;
        placed = λ c b i. let k = stood z s (round z s) r.0 r.1.flows c b i in h.placed k.0 b k.1;
      }

  sound_step : (v : Event) (s : State) → ((b : Block) → v ≡ Enter b → b.place < z.places) → Sound z s → Sound z (step z v s)
  sound_step (Enter b) s l h = sound_enter z b s (l b refl) h
  sound_step Round s l h = sound_round s h

  sound_play : (vs : List Event) (s : State) → Orderly z vs → Sound z s → Sound z (play z vs s)
  unfolding play
  sound_play [] s o h = h
  sound_play (v ∷ vs) s o h =
      sound_play vs (step z v s) (λ b i. o b (mathlib.Core.List.Memᴰ.tail i)) (sound_step v s (λ b e. (o b (mathlib.Core.List.Memᴰ.head (sym e))).1) h)

  pub sound : (vs : List Event) → Orderly z vs → Sound z (after z vs)
  sound vs o = sound_play vs (start z) o (sound_start z)

  pub passing : (vs : List Event) → Orderly z vs → (f : Flow) × Passed z (after z vs) (round z (after z vs)) f
  passing vs o = passes order z good (after z vs) (sound vs o).turns

pub one_link : InOrderOfRank → OneLink
one_link order z good vs o =
    let r = passing order z good vs o in
    let h = r.1.flows in
    record {
      gone = r.0.gone;
      kept = r.0.kept;
      new = r.0.new;
      before = h.before;
      afterwards = h.afterwards;
      one = h.one;
      source = h.source;
    }
