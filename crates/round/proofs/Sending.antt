-- A block that was taken from a channel and put into a link's store has moved as the machine moves it. Assumes nothing.
use Rattle.std.proofs.Common.{◌≡◌, ℕ, ◌+◌, ◌<◌, ◌≤◌, eqb, ltb, List, [], ◌∷◌, ◌++◌, Some, None, Option, sym, ap, ◌∙◌, ltb-true, arith}
use Rattle.std.proofs.lemmas.Bool.{cond_both, cond-true, eqb-true, lt-ltb}
use Rattle.net.specs.declared.Block.{Block}
use Rattle.net.specs.Heads.{head_of}
use Rattle.net.specs.Net.{Net, channels}
use Rattle.machine.proofs.Steps.{look_finds, wants_leading}
use Rattle.machine.specs.Round.{State, at, firsts, following, leave, look, move, serve, take}
use Rattle.round.specs.Fabric.{arrives, leaves}

one_first : (q : List Block) (b : Block) → Some b ≡ head_of q → firsts q ≡ b ∷ []
one_first [] b h = cc
one_first (a ∷ q) b h = let e : a ≡ b = cc in ap (λ (x : Block). x ∷ []) e

-- the channel after a channel is a channel
pub following_below : (z : Net) (c : ℕ) → c < channels z → following z c < channels z
following_below z c h = cond_both (ltb (c + 1) (channels z)) (c + 1) 0 (λ (k : ℕ). k < channels z) (λ t. ltb-true (c + 1) (channels z) t) (λ t. omega arith)

module _ (z : Net) (e c : ℕ) (s : State) where
  -- what is found is a channel in which something stands
  pub found : s.turn e < channels z → Some c ≡ look z e s.queue (s.turn e) (channels z) → c < channels z
  found l h = (look_finds z e s.queue (s.turn e) (channels z) l c (sym h)).0

  pub held : s.turn e < channels z → Some c ≡ look z e s.queue (s.turn e) (channels z) → None ≡ head_of (s.queue c) → ⊥
  held l h n = let w = look_finds z e s.queue (s.turn e) (channels z) l c (sym h) in
      let b = wants_leading z e c (s.queue c) w.1 in
      let k = ap head_of b.2 in cc

  -- a place that is free stays free where a block leaves some channel
  pub still_free : (r : Option Block) → s.free e ≤ (leaves z c r s).free e
  still_free None = omega arith
  still_free (Some b) =
      cond_both (ltb c z.links) (at c (s.free c + 1) s.free) s.free (λ (f : ℕ → ℕ). s.free e ≤ f e)
      (λ l. cond_both (eqb e c) (s.free c + 1) (s.free e) (λ (k : ℕ). s.free e ≤ k) (λ q. let i = ap s.free (eqb-true e c q) in omega arith) (λ q. omega arith))
      (λ l. omega arith)

  -- the first block of c has left, and came in at e
  pub sent : (b : Block) (r : Option Block) (t u : State) → 0 < s.free e → Some c ≡ look z e s.queue (s.turn e) (channels z) →
      r ≡ Some b → r ≡ head_of (s.queue c) → t ≡ leaves z c r s → u ≡ arrives z e c b t → u ≡ serve z e s
  sent b r t u f l i h p q =
      q ∙ ap (arrives z e c b) (p ∙ ap (λ (w : Option Block). leaves z c w s) i) ∙
      ap (λ (w : List Block). record {
        queue = at e ((leave z c s).queue e ++ w) (leave z c s).queue;
        free = (move z e c s).free;
        turn = (move z e c s).turn;
        came = s.came;
        round = s.round;
      }) (sym (one_first (s.queue c) b (sym i ∙ h))) ∙
      ap (λ (x : Option ℕ). take z e x s) l ∙
      sym (cond-true (ltb 0 (s.free e)) (take z e (look z e s.queue (s.turn e) (channels z)) s) s (lt-ltb 0 (s.free e) f))
