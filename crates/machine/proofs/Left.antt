-- A number of rounds for the first block of a channel: at least one, at most the channel's patience, and less after each round in which the block does not leave. Assumes nothing.
use Rattle.std.proofs.Common.{◌≡◌, ℕ, zero, suc, ◌+◌, ◌*◌, ◌<◌, ◌≤◌, true, List, [], ◌∷◌, ◌++◌, length, sym, refl, ap, ◌∙◌, subst, ⊎_elim, mul-le-mul_right, arith}
use mathlib.Core.List.Memᴰ
use mathlib.Core.List.{Memᴰ}
use Rattle.std.proofs.lemmas.Bool.{cases_lt, both_ways}
use Rattle.net.specs.declared.Block.{Block}
use Rattle.net.specs.declared.Entry.{Entry}
use Rattle.net.specs.declared.Entry.TheVariants.{Here, Link}
use Rattle.net.specs.Net.{Net, Good, channels}
use Rattle.machine.specs.Round.{State, comes, wants, following}
use Rattle.machine.proofs.Looks.{wants_from, comes_here}
use Rattle.machine.proofs.Flows.{Flow}
use Rattle.machine.proofs.Rounds.{Passed, Took, Full, unmoved}
use Rattle.machine.proofs.OneLink.{Sound}
use Rattle.machine.proofs.Motion.{height, height_falls, Right}
use Rattle.machine.proofs.Patience.{Patient, gap, gap_most, gap_falls}

-- the first block of c leaves it within n rounds: it is handed over here; or it goes to e, whose turn comes to c after so many feeders,
-- and which has a credit or is full
pub data Left (z : Net) (P : ℕ → ℕ) (s : State) : ℕ → ℕ → Type 0 where
  over : {c n : ℕ} (b : Block) (bs : List Block) → s.queue c ≡ b ∷ bs → z.next c b.place ≡ Here → n ≡ 1 → Left z P s c n
  ready : {c n : ℕ} (b : Block) (bs : List Block) (e : ℕ) → s.queue c ≡ b ∷ bs → z.next c b.place ≡ Link e → 0 < s.free e →
      n ≡ gap z e (s.turn e) c * P e + 1 → Left z P s c n
  full : {c n : ℕ} (b : Block) (bs : List Block) (e x : ℕ) → s.queue c ≡ b ∷ bs → z.next c b.place ≡ Link e → s.free e ≡ 0 →
      Left z P s e x → n ≡ gap z e (s.turn e) c * P e + x → Left z P s c n

pub record Ok (z : Net) (s : State) : Type 0 where
  pub sound : Sound z s
  pub right : Right z s

pub left_least : {z : Net} {P : ℕ → ℕ} {s : State} {c n : ℕ} → Left z P s c n → 1 ≤ n
left_least (over b bs q p i) = omega arith
left_least (ready b bs e q p f i) = omega arith
left_least (full b bs e x q p f l i) = let k = left_least l in omega arith

module _ (z : Net) (good : Good z) (P : ℕ → ℕ) (R : ℕ → ℕ → ℕ → ℕ) (pat : Patient z P R) (s : State) (ok : Ok z s) where
  placed : (c : ℕ) (b : Block) (bs : List Block) → s.queue c ≡ b ∷ bs → b.place < z.places
  placed c b bs q = ok.sound.placed c b (subst (λ (x : List Block). Memᴰ b x) (sym q) (Memᴰ.head refl))

  in_patience : (c : ℕ) → c < channels z → (b : Block) (bs : List Block) → s.queue c ≡ b ∷ bs → (e : ℕ) → z.next c b.place ≡ Link e →
      (x : ℕ) → x ≤ P e → gap z e (s.turn e) c * P e + x ≤ P c
  in_patience c l b bs q e p x k =
      let i = pat.feed c b.place e (placed c b bs q) p in
      let g = gap_most z e (s.turn e) c (ok.sound.turns e (omega arith)) l (b.place, placed c b bs q, p) in
      omega (arith, mul-le-mul_right (P e) g)

  link_below : (c p e : ℕ) → z.next c p ≡ Link e → e < channels z
  link_below c p e q = let r = (good.rises c p e q).0 in omega arith

  pub left_most : {c n : ℕ} → c < channels z → Left z P s c n → n ≤ P c
  left_most {c} l (over b bs q p i) = let k = pat.least c in omega arith
  left_most {c} l (ready b bs e q p f i) = let k = in_patience c l b bs q e p 1 (pat.least e) in omega arith
  left_most {c} l (full b bs e x q p f h i) =
      let k = in_patience c l b bs q e p x (left_most (link_below c b.place e p) h) in omega arith

  -- a full link is not empty
  full_some : (e : ℕ) → e < z.links → s.free e ≡ 0 → (b : Block) × (bs : List Block) × (s.queue e ≡ b ∷ bs)
  full_some e l f = go (s.queue e) refl
    where
      go : (q : List Block) → s.queue e ≡ q → (b : Block) × (bs : List Block) × (s.queue e ≡ b ∷ bs)
      go [] p = let k : length (s.queue e) ≡ 0 = ap length p in let r = ok.right e l in let o = good.some in absurd (omega arith)
      go (b ∷ bs) p = (b, bs, p)

  left_some : (k c : ℕ) → height z c < k → c < channels z → (b : Block) (bs : List Block) → s.queue c ≡ b ∷ bs → (n : ℕ) × Left z P s c n
  left_some zero c i l b bs q = absurd (omega arith)
  left_some (suc k) c i l b bs q = each_entry (λ e j. left_some k e (omega arith)) (z.next c b.place) refl
    where
      each_entry : ((e : ℕ) → height z e < height z c → e < channels z → (x : Block) (xs : List Block) → s.queue e ≡ x ∷ xs → (n : ℕ) × Left z P s e n) →
          (y : Entry) → z.next c b.place ≡ y → (n : ℕ) × Left z P s c n
      each_entry on Here p = (1, over b bs q p refl)
      each_entry on (Link e) p =
          ⊎_elim
          (λ (f : 0 < s.free e). (gap z e (s.turn e) c * P e + 1, ready b bs e q p f refl))
          (λ (f : s.free e ≤ 0).
          let none : s.free e ≡ 0 = omega arith in
          let t = full_some e (good.rises c b.place e p).0 none in
          let r = on e (height_falls z good c b.place e p) (link_below c b.place e p) t.0 t.1 t.2 in
          (gap z e (s.turn e) c * P e + r.0, full b bs e r.0 q p none r.1 refl))
          (cases_lt 0 (s.free e))

  pub left : (c : ℕ) → c < channels z → (b : Block) (bs : List Block) → s.queue c ≡ b ∷ bs → (n : ℕ) × (n ≤ P c) × Left z P s c n
  left c l b bs q = let r = left_some (suc (height z c)) c (omega arith) l b bs q in (r.0, left_most l r.1, r.1)

  left_to : (c : ℕ) → c < channels z → (b : Block) (bs : List Block) → s.queue c ≡ b ∷ bs → (e : ℕ) → z.next c b.place ≡ Link e →
      (x : ℕ) × (x ≤ P e) × Left z P s c (gap z e (s.turn e) c * P e + x)
  left_to c l b bs q e p =
      ⊎_elim
      (λ (f : 0 < s.free e). (1, pat.least e, ready b bs e q p f refl))
      (λ (f : s.free e ≤ 0).
      let none : s.free e ≡ 0 = omega arith in
      let t = full_some e (good.rises c b.place e p).0 none in
      let r = left e (link_below c b.place e p) t.0 t.1 t.2 in
      (r.0, r.1, full b bs e r.0 q p none r.2 refl))
      (cases_lt 0 (s.free e))

-- a round from s to t
module _ (z : Net) (good : Good z) (P : ℕ → ℕ) (R : ℕ → ℕ → ℕ → ℕ) (pat : Patient z P R) (s t : State) (f : Flow) (h : Passed z s t f)
    (ok-s : Ok z s) (ok-t : Ok z t) where
  still_first : (c : ℕ) (b : Block) (bs : List Block) → s.queue c ≡ b ∷ bs → f.gone c ≡ [] → t.queue c ≡ b ∷ (bs ++ f.new c)
  still_first c b bs q g = unmoved z s t f h.flows c g ∙ ap (λ (x : List Block). x ++ f.new c) q

  gone_placed : (c : ℕ) (b : Block) → Memᴰ b (f.gone c) → b.place < z.places
  gone_placed c b i = ok-s.sound.placed c b (subst (λ (x : List Block). Memᴰ b x) (sym (h.flows.before c)) (Memᴰ.append_left (f.kept c) i))

  -- e took from a channel that comes before c: the gap falls
  took_falls : (c n e x : ℕ) (b : Block) (bs : List Block) → c < channels z → f.gone c ≡ [] → s.queue c ≡ b ∷ bs → z.next c b.place ≡ Link e →
      1 ≤ x → n ≡ gap z e (s.turn e) c * P e + x → Took z s t f e c → (m : ℕ) × Left z P t c m × (m < n)
  took_falls c n e x b bs l g q p o i k =
      let r = left_to z good P R pat t ok-t c l b (bs ++ f.new c) (still_first c b bs q g) e p in
      let u : gap z e (following z k.from) c + 1 ≤ gap z e (s.turn e) c =
      gap_falls z e (s.turn e) k.from c k.near k.far (ok-s.sound.turns e (omega arith)) k.channel l k.nearer k.short
      k.from_turn k.here (k.block.place, gone_placed k.from k.block k.lost, k.way) in
      let v : gap z e (t.turn e) c ≡ gap z e (following z k.from) c = ap (λ (y : ℕ). gap z e y c) k.turned in
      let w : gap z e (t.turn e) c + 1 ≤ gap z e (s.turn e) c = omega arith in
      let a : r.0 ≤ P e = r.1 in
      (gap z e (t.turn e) c * P e + r.0, r.2, omega (arith, mul-le-mul_right (P e) w))

  pub left_falls : {c n : ℕ} → c < channels z → f.gone c ≡ [] → Left z P s c n → (m : ℕ) × Left z P t c m × (m < n)
  left_falls {c} {n} l g (over b bs q p i) =
      absurd (both_ways (comes z c (s.queue c)) (h.waiting c l g) (subst (λ (x : List Block). comes z c x ≡ true) (sym q) (comes_here z c b bs p)))
  left_falls {c} {n} l g (ready b bs e q p w i) =
      let wanting = subst (λ (y : List Block). wants z e c y ≡ true) (sym q) (wants_from z e c b bs p) in
      ⊎_elim
      (λ (k : Took z s t f e c). took_falls c n e 1 b bs l g q p (omega arith) i k)
      (λ (k : Full z s t f e). let y = k.none in absurd (omega arith))
      (h.held e (good.rises c b.place e p).0 c l wanting g)
  left_falls {c} {n} l g (full b bs e x q p w d i) =
      let wanting = subst (λ (y : List Block). wants z e c y ≡ true) (sym q) (wants_from z e c b bs p) in
      ⊎_elim
      (λ (k : Took z s t f e c). took_falls c n e x b bs l g q p (left_least d) i k)
      (λ (k : Full z s t f e).
      let r = left_falls (link_below z good P R pat s ok-s c b.place e p) k.unmoved d in
      let v : gap z e (t.turn e) c * P e ≡ gap z e (s.turn e) c * P e = ap (λ (y : ℕ). gap z e y c * P e) k.turned in
      (gap z e (t.turn e) c * P e + r.0, full b (bs ++ f.new c) e r.0 (still_first c b bs q g) p k.still r.1 refl, (let j = r.2 in omega arith)))
      (h.held e (good.rises c b.place e p).0 c l wanting g)
