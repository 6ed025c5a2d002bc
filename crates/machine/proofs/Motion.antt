-- It never stands still; and how many links are above a channel, which falls along every entry. Assumes the order of serving (InOrderOfRank) and that credits are right (CountRight).
use Rattle.std.proofs.Common.{◌≡◌, ℕ, zero, suc, ◌+◌, ◌<◌, ◌≤◌, true, cond, ltb, List, [], ◌∷◌, ◌++◌, length, sym, refl, ap, subst, ⊎_elim, arith}
use mathlib.Core.List.Memᴰ
use mathlib.Core.List.{Memᴰ}
use Rattle.std.proofs.lemmas.List.{length-append}
use Rattle.std.proofs.lemmas.Bool.{cond_both, cond-true, cond-false, lt-ltb, le-ltb, ltb-true, cases_eq, both_ways}
use Rattle.net.specs.declared.Block.{Block}
use Rattle.net.specs.declared.Entry.{Entry}
use Rattle.net.specs.declared.Entry.TheVariants.{Here, Link}
use Rattle.net.specs.Net.{Net, Good, channels}
use Rattle.net.specs.Order.{InOrderOfRank}
use Rattle.machine.specs.Round.{State, after, round, comes, wants}
use Rattle.machine.specs.Promise.{CountRight, Moves}
use Rattle.machine.proofs.Looks.{wants_from, comes_here}
use Rattle.machine.proofs.Flows.{Flow}
use Rattle.machine.proofs.Rounds.{Passed, Took, Full}
use Rattle.machine.proofs.OneLink.{passing}

-- how many links below n have a rank above r
abbrev above : Net → ℕ → ℕ → ℕ
above z r zero = 0
above z r (suc n) = cond (ltb r (z.rank n)) 1 0 + above z r n

above_most : (z : Net) (r n : ℕ) → above z r n ≤ n
above_most z r zero = omega arith
above_most z r (suc n) =
    let i = above_most z r n in
    cond_both (ltb r (z.rank n)) 1 0 (λ v. v + above z r n ≤ suc n) (λ w. omega arith) (λ w. omega arith)

above_less : (z : Net) (q r n : ℕ) → q ≤ r → above z r n ≤ above z q n
above_less z q r zero l = omega arith
above_less z q r (suc n) l =
    let i = above_less z q r n l in
    cond_both (ltb r (z.rank n)) 1 0 (λ v. v + above z r n ≤ cond (ltb q (z.rank n)) 1 0 + above z q n)
    (λ w. let k = ltb-true r (z.rank n) w in
    let j : ◌≡◌ {A = ℕ} (cond (ltb q (z.rank n)) 1 0) 1 = cond-true (ltb q (z.rank n)) 1 0 (lt-ltb q (z.rank n) (omega arith)) in omega arith)
    (λ w. omega arith)

above_falls : (z : Net) (r e n : ℕ) → e < n → r < z.rank e → above z (z.rank e) n < above z r n
above_falls z r e zero l h = absurd (omega arith)
above_falls z r e (suc n) l h =
    ⊎_elim
    (λ (q : e ≡ n).
    let k : z.rank e ≡ z.rank n = ap z.rank q in
    let i = above_less z r (z.rank e) n (omega arith) in
    let a : ◌≡◌ {A = ℕ} (cond (ltb r (z.rank n)) 1 0) 1 = cond-true (ltb r (z.rank n)) 1 0 (lt-ltb r (z.rank n) (omega arith)) in
    let b : ◌≡◌ {A = ℕ} (cond (ltb (z.rank e) (z.rank n)) 1 0) 0 = cond-false (ltb (z.rank e) (z.rank n)) 1 0 (le-ltb (z.rank e) (z.rank n) (omega arith)) in
    omega arith)
    (λ (q : e ≡ n → ⊥).
    let i = above_falls z r e n (omega arith) h in
    cond_both (ltb (z.rank e) (z.rank n)) 1 0 (λ v. v + above z (z.rank e) n < cond (ltb r (z.rank n)) 1 0 + above z r n)
    (λ w. let k = ltb-true (z.rank e) (z.rank n) w in
    let a : ◌≡◌ {A = ℕ} (cond (ltb r (z.rank n)) 1 0) 1 = cond-true (ltb r (z.rank n)) 1 0 (lt-ltb r (z.rank n) (omega arith)) in omega arith)
    (λ w. omega arith))
    (cases_eq e n)

-- how many links have a higher rank than channel c
abbrev pub height : Net → ℕ → ℕ
height z c = above z (z.rank c) z.links

pub height_most : (z : Net) (c : ℕ) → height z c ≤ z.links
height_most z c = above_most z (z.rank c) z.links

pub height_falls : (z : Net) → Good z → (c p e : ℕ) → z.next c p ≡ Link e → height z e < height z c
height_falls z good c p e n = let r = good.rises c p e n in above_falls z (z.rank c) e z.links r.0 r.1

-- the credits of a link and what stands in its store make up the store
abbrev pub Right : Net → State → Type 0
Right z s = (e : ℕ) → e < z.links → s.free e + length (s.queue e) ≡ z.store

mem_some : (bs : List Block) (b : Block) → Memᴰ b bs → 0 < length bs
mem_some [] b m = absurd (Memᴰ.not-nil m)
mem_some (x ∷ bs) b m = omega arith

abbrev Shorter : Net → State → State → Type 0
Shorter z s t = (e : ℕ) × (e < channels z) × (length (t.queue e) < length (s.queue e))

abbrev Loser : Net → Flow → Type 0
Loser z f = (a : ℕ) × (a < channels z) × (b : Block) × Memᴰ b (f.gone a)

module _ (z : Net) (good : Good z) (s t : State) (f : Flow) (h : Passed z s t f) (right : Right z s) where
  -- c, whose first block is b, loses a block or keeps all; if it keeps all, the link that b wants has taken another block or is full
  by_first : (c : ℕ) → c < channels z → (b : Block) (bs : List Block) → s.queue c ≡ b ∷ bs → f.gone c ≡ [] → (n : Entry) → z.next c b.place ≡ n →
      ((e : ℕ) → height z e < height z c → e < channels z → 0 < length (s.queue e) → Loser z f) → Loser z f
  by_first c l b bs q g Here p on =
      absurd (both_ways (comes z c (s.queue c)) (h.waiting c l g) (subst (λ (x : List Block). comes z c x ≡ true) (sym q) (comes_here z c b bs p)))
  by_first c l b bs q g (Link e) p on =
      let link : e < z.links = (good.rises c b.place e p).0 in
      let w : wants z e c (s.queue c) ≡ true = subst (λ (x : List Block). wants z e c x ≡ true) (sym q) (wants_from z e c b bs p) in
      ⊎_elim
      (λ (k : Took z s t f e c). (k.from, k.channel, k.block, k.lost))
      (λ (k : Full z s t f e).
      let r = right e link in let n = k.none in let o = good.some in
      on e (height_falls z good c b.place e p) (omega arith) (omega arith))
      (h.held e link c l w g)

  -- if anything is under way, some channel loses a block
  loser : (k c : ℕ) → height z c < k → c < channels z → 0 < length (s.queue c) → Loser z f
  loser zero c i l n = absurd (omega arith)
  loser (suc k) c i l n = by_gone (λ e j. loser k e (omega arith)) (f.gone c) refl
    where
      by_queue : ((e : ℕ) → height z e < height z c → e < channels z → 0 < length (s.queue e) → Loser z f) →
          (q : List Block) → s.queue c ≡ q → f.gone c ≡ [] → Loser z f
      by_queue on [] p g = let x : length (s.queue c) ≡ 0 = ap length p in absurd (omega arith)
      by_queue on (b ∷ bs) p g = by_first c l b bs p g (z.next c b.place) refl on

      by_gone : ((e : ℕ) → height z e < height z c → e < channels z → 0 < length (s.queue e) → Loser z f) →
          (g : List Block) → f.gone c ≡ g → Loser z f
      by_gone on [] p = by_queue on (s.queue c) refl p
      by_gone on (b ∷ bs) p = (c, l, b, subst (λ (x : List Block). Memᴰ b x) (sym p) (Memᴰ.head refl))

  -- of the channels that lose a block the one of lowest rank gets none
  shorter : (k a : ℕ) → z.rank a < k → a < channels z → (b : Block) → Memᴰ b (f.gone a) → Shorter z s t
  shorter zero a i l b m = absurd (omega arith)
  shorter (suc k) a i l b m = by_new (λ c j. shorter k c (omega arith)) (f.new a) refl
    where
      by_new : ((c : ℕ) → z.rank c < z.rank a → c < channels z → (x : Block) → Memᴰ x (f.gone c) → Shorter z s t) →
          (n : List Block) → f.new a ≡ n → Shorter z s t
      by_new on [] p =
          let u : length (s.queue a) ≡ length (f.gone a ++ f.kept a) = ap length (h.flows.before a) in
          let v : length (t.queue a) ≡ length (f.kept a ++ f.new a) = ap length (h.flows.afterwards a) in
          let n : length (f.new a) ≡ 0 = ap length p in
          let g : 0 < length (f.gone a) = mem_some (f.gone a) b m in
          (a, l, omega (arith, length-append (f.gone a) (f.kept a), length-append (f.kept a) (f.new a)))
      by_new on (x ∷ xs) p =
          let r = h.flows.source a x (subst (λ (y : List Block). Memᴰ x y) (sym p) (Memᴰ.head refl)) in
          on r.0 (good.rises r.0 x.place a r.3).1 r.1 x r.2

pub moves : InOrderOfRank → CountRight → Moves
moves order right z good vs o c l n =
    let r = passing order z good vs o in
    let s = after z vs in
    let a = loser z good s (round z s) r.0 r.1 (right z good vs o) (suc (height z c)) c (omega arith) l n in
    shorter z good s (round z s) r.0 r.1 (right z good vs o) (suc (z.rank a.0)) a.0 (omega arith) a.1 a.2 a.3
