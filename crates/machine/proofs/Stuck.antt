-- The ring of four with a table that goes round stands still, and no ranks rise along it. Assumes nothing.
use Rattle.std.proofs.Common.{◌≡◌, ℕ, zero, suc, ◌<◌, Bool, false, cond, ltb, List, [], ◌∷◌, refl, ap, ◌∙◌, arith}
use Rattle.std.specs.List.{AllByRecursion as All}
use Rattle.net.specs.Net.{Net, Good, channels}
use Rattle.net.specs.Order.{order, insert_by, serving}
use Rattle.machine.specs.Round.{State, all_handed, handed_over, all_served, take, deliver, comes, look, play, counted, round}
use Rattle.machine.specs.Still.{StandsStill, ring_of_four, in_turn, filled, for_two_on}

-- where no first block has come, handing over changes nothing
none_come : (z : Net) (s : State) (n : ℕ) → ((c : ℕ) → c < n → comes z c (s.queue c) ≡ false) → all_handed z n s ≡ s
unfolding all_handed
none_come z s zero h = refl
none_come z s (suc n) h =
    let i = none_come z s n (λ c l. h c (omega arith)) in
    let f : comes z n (s.queue n) ≡ false = h n (omega arith) in
    ap (handed_over z n) i ∙ ap (λ (b : Bool). cond b (deliver z n s) s) f

-- where no link has a credit, serving changes nothing
none_free : (z : Net) (s : State) (es : List ℕ) → All (λ e. s.free e ≡ 0) es → all_served z es s ≡ s
unfolding all_served
none_free z s [] h = refl
none_free z s (e ∷ es) h =
    ap (λ (n : ℕ). all_served z es (cond (ltb 0 n) (take z e (look z e s.queue (s.turn e) (channels z)) s) s)) h.0 ∙
    none_free z s es h.1

full : (d : ℕ) → d < 4 → filled.queue d ≡ for_two_on d ∷ []
unfolding all_handed all_served look play order insert_by
full zero h = refl
full (suc zero) h = refl
full (suc (suc zero)) h = refl
full (suc (suc (suc zero))) h = refl
full (suc (suc (suc (suc d)))) h = absurd (omega arith)

waiting : (c : ℕ) → c < 8 → comes in_turn c (filled.queue c) ≡ false
unfolding all_handed all_served look play order insert_by
waiting zero h = refl
waiting (suc zero) h = refl
waiting (suc (suc zero)) h = refl
waiting (suc (suc (suc zero))) h = refl
waiting (suc (suc (suc (suc zero)))) h = refl
waiting (suc (suc (suc (suc (suc zero))))) h = refl
waiting (suc (suc (suc (suc (suc (suc zero)))))) h = refl
waiting (suc (suc (suc (suc (suc (suc (suc zero))))))) h = refl
waiting (suc (suc (suc (suc (suc (suc (suc (suc c)))))))) h = absurd (omega arith)

served : serving in_turn ≡ 3 ∷ 2 ∷ 1 ∷ 0 ∷ []
unfolding order insert_by
served = refl

used_up : All (λ e. filled.free e ≡ 0) (3 ∷ 2 ∷ 1 ∷ 0 ∷ [])
unfolding all_handed all_served look play order insert_by
used_up = (refl, (refl, (refl, (refl, tt))))

-- stated of a state of its own, so that the filled one is not computed again
unmoved : (s : State) → ((c : ℕ) → c < 8 → comes in_turn c (s.queue c) ≡ false) → All (λ e. s.free e ≡ 0) (3 ∷ 2 ∷ 1 ∷ 0 ∷ []) →
    round in_turn s ≡ counted s
unmoved s w u =
    ap (all_served in_turn (serving in_turn)) (none_come in_turn (counted s) 8 w) ∙
    ap (λ (es : List ℕ). all_served in_turn es (counted s)) served ∙
    none_free in_turn (counted s) (3 ∷ 2 ∷ 1 ∷ 0 ∷ []) u

no_ranks : (rank : ℕ → ℕ) → Good (ring_of_four rank) → ⊥
no_ranks rank g =
    let a : rank 0 < rank 1 = (g.rises 0 2 1 refl).1 in
    let b : rank 1 < rank 2 = (g.rises 1 3 2 refl).1 in
    let c : rank 2 < rank 3 = (g.rises 2 0 3 refl).1 in
    let d : rank 3 < rank 0 = (g.rises 3 1 0 refl).1 in
    omega arith

pub stands_still : StandsStill
stands_still = (full, unmoved filled waiting used_up, no_ranks)
