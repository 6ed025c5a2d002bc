-- A round counts itself once. Assumes nothing.
use Rattle.std.proofs.Common.{◌≡◌, ℕ, zero, suc, ◌+◌, ltb, List, [], ◌∷◌, Some, None, Option, refl, ◌∙◌}
use Rattle.std.proofs.lemmas.Bool.{cond_both}
use Rattle.net.specs.Net.{Net, channels}
use Rattle.net.specs.Order.{serving}
use Rattle.machine.specs.Round.{State, comes, counted, deliver, all_handed, look, round, serve, all_served, take}

hand_all : (z : Net) (c : ℕ) (s : State) → (all_handed z c s).round ≡ s.round
unfolding all_handed
hand_all z zero s = refl
hand_all z (suc c) s =
    cond_both (comes z c ((all_handed z c s).queue c)) (deliver z c (all_handed z c s)) (all_handed z c s) (λ (t : State). t.round ≡ s.round)
    (λ _. hand_all z c s) (λ _. hand_all z c s)

taken : (z : Net) (e : ℕ) (o : Option ℕ) (s : State) → (take z e o s).round ≡ s.round
taken z e None s = refl
taken z e (Some c) s = refl

served : (z : Net) (e : ℕ) (s : State) → (serve z e s).round ≡ s.round
served z e s =
    cond_both (ltb 0 (s.free e)) (take z e (look z e s.queue (s.turn e) (channels z)) s) s (λ (t : State). t.round ≡ s.round)
    (λ _. taken z e (look z e s.queue (s.turn e) (channels z)) s) (λ _. refl)

serve_all : (z : Net) (es : List ℕ) (s : State) → (all_served z es s).round ≡ s.round
unfolding all_served
serve_all z [] s = refl
serve_all z (e ∷ es) s = serve_all z es (serve z e s) ∙ served z e s

pub one_round : (z : Net) (s : State) → (round z s).round ≡ s.round + 1
one_round z s = serve_all z (serving z) (all_handed z (channels z) (counted s)) ∙ hand_all z (channels z) (counted s)
