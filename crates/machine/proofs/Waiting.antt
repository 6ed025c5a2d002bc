-- A block comes within its wait, whatever is let in meanwhile. Assumes the order of serving (InOrderOfRank) and that credits are right (CountRight).
use Rattle.std.proofs.Common.{◌≡◌, ℕ, zero, suc, ◌+◌, ◌*◌, ◌<◌, ◌≤◌, cond, ◌⊎◌, List, [], ◌∷◌, ◌++◌, length, sym, refl, ap, ◌∙◌, subst, inl, inr, ⊎_elim, append_assoc, append-nil, mul-le-mul_right, arith}
use mathlib.Core.List.Memᴰ
use mathlib.Core.List.{Memᴰ}
use Rattle.std.proofs.lemmas.List.{length_push}
use Rattle.net.specs.declared.Block.{Block}
use Rattle.net.specs.declared.Came.{Came}
use Rattle.net.specs.declared.Entry.TheVariants.{Here, Link}
use Rattle.net.specs.Net.{Net, Good, channels}
use Rattle.net.specs.Order.{InOrderOfRank}
use Rattle.machine.specs.Round.{State, Event, Enter, Round, Orderly, start, enter, step, play, after, round}
use Rattle.machine.specs.Waits.{patience, onward, wait}
use Rattle.machine.specs.Promise.{CountRight, Stands, blocks, rounds, Waits, Enters}
use Rattle.machine.proofs.Steps.{at_same}
use Rattle.machine.proofs.Flows.{Flow, by_at, blocks_left, blocks_right}
use Rattle.machine.proofs.Rounds.{Passed, passes}
use Rattle.machine.proofs.OneLink.{sound}
use Rattle.machine.proofs.Motion.{height, height_most, height_falls}
use Rattle.machine.proofs.Patience.{Patient, patient}
use Rattle.machine.proofs.Left.{Left, over, ready, full, Ok, left, left_least, left_falls}

-- of two ways to cut a list, b is in the first part of the second, or stands so much further on
cut : (us : List Block) (b : Block) (ws gs ks : List Block) → us ++ (b ∷ ws) ≡ gs ++ ks →
    Memᴰ b gs ⊎ ((vs : List Block) × (ks ≡ vs ++ (b ∷ ws)) × (length us ≡ length gs + length vs))
cut us b ws [] ks e = inr (us, sym e, omega arith)
cut [] b ws (g ∷ gs) ks e = inl (Memᴰ.head (cc))
cut (u ∷ us) b ws (g ∷ gs) ks e =
    ⊎_elim
    (λ (m : Memᴰ b gs). inl (Memᴰ.tail m))
    (λ (r : (vs : List Block) × (ks ≡ vs ++ (b ∷ ws)) × (length us ≡ length gs + length vs)). inr (r.0, r.1, (let l = r.2 in omega arith)))
    (cut us b ws gs ks (cc))

first_of : (us : List Block) (b : Block) (ws : List Block) → (x : Block) × (xs : List Block) × (us ++ (b ∷ ws) ≡ x ∷ xs)
first_of [] b ws = (b, ws, refl)
first_of (u ∷ us) b ws = (u, us ++ (b ∷ ws), refl)

-- what is left of the wait of block b, and where it stands
pub record Under (z : Net) (P : ℕ → ℕ) (R : ℕ → ℕ → ℕ → ℕ) (s : State) (b : Block) (n : ℕ) : Type 0 where
  pub channel : ℕ
  pub links : ℕ
  pub others : ℕ
  pub first : ℕ
  pub below : channel < channels z
  pub enough : height z channel < links
  pub stands : Stands b others (s.queue channel)
  pub left : Left z P s channel first
  pub sum : first + others * P channel + R links channel b.place ≤ n

module _ (z : Net) (good : Good z) (P : ℕ → ℕ) (R : ℕ → ℕ → ℕ → ℕ) (pat : Patient z P R) where
  -- a block that stands somewhere comes within a wait
  under : (s : State) → Ok z s → (c k i : ℕ) (b : Block) → c < channels z → height z c < k → Stands b i (s.queue c) →
      Under z P R s b ((i + 1) * P c + R k c b.place)
  under s ok c k i b l h st =
      let a = first_of st.0 b st.1 in
      let r = left z good P R pat s ok c l a.0 a.1 (st.2 ∙ a.2) in
      let m : r.0 ≤ P c = r.1 in
      record { channel = c; links = k; others = i; first = r.0; below = l; enough = h; stands = st; left = r.2; sum = omega arith }

  under_more : (s : State) (b : Block) (m n : ℕ) → m ≤ n → Under z P R s b m → Under z P R s b n
  under_more s b m n l u = let k = u.sum in record {
    channel = u.channel;
    links = u.links;
    others = u.others;
    first = u.first;
    below = u.below;
    enough = u.enough;
    stands = u.stands;
    left = u.left;
    sum = omega arith;
  }

  -- a round from s to t, with b in channel c
  module _ (s t : State) (f : Flow) (h : Passed z s t f) (ok-t : Ok z t) (b : Block) (c k i x n : ℕ) (l : c < channels z) (enough : height z c < k)
      (lft : Left z P s c x) (sum : x + i * P c + R k c b.place ≤ suc n) where
    -- b went to link e
    went : (e : ℕ) → z.next c b.place ≡ Link e → f.new e ≡ b ∷ [] → Under z P R t b n
    went e to new = go k refl
      where
        link : e < z.links
        link = (good.rises c b.place e to).0

        last : t.queue e ≡ f.kept e ++ (b ∷ [])
        last = h.flows.afterwards e ∙ ap (λ (y : List Block). f.kept e ++ y) new

        go : (j : ℕ) → k ≡ j → Under z P R t b n
        go zero q = absurd (omega arith)
        go (suc j) q =
            let a = under t ok-t e j (length (f.kept e)) b (let g = link in omega arith) (let g = height_falls z good c b.place e to in omega arith)
            (f.kept e, [], last, refl) in
            let y : R k c b.place ≡ R (suc j) c b.place = ap (λ (o : ℕ). R o c b.place) q in
            let m = pat.road j c b.place e to in
            let r = ok-t.right e link in
            let w : length (t.queue e) ≡ length (f.kept e ++ (b ∷ [])) = ap length last in
            let v : length (f.kept e) + 1 ≤ z.store = omega (arith, length_push (f.kept e) b) in
            let o = left_least lft in
            let d = mul-le-mul_right (P e) v in
            under_more t b ((length (f.kept e) + 1) * P e + R j e b.place) n (omega arith) a

    -- b is still in channel c
    stayed : Ok z s → (vs ws : List Block) → f.kept c ≡ vs ++ (b ∷ ws) → i ≡ length (f.gone c) + length vs → Under z P R t b n
    stayed ok-s vs ws q e = go (f.gone c) refl
      where
        stood : Stands b (length vs) (t.queue c)
        stood = (vs, ws ++ f.new c, h.flows.afterwards c ∙ ap (λ (y : List Block). y ++ f.new c) q ∙ append_assoc vs (b ∷ ws) (f.new c), refl)

        go : (g : List Block) → f.gone c ≡ g → Under z P R t b n
        go [] p =
            let r = left_falls z good P R pat s t f h ok-s ok-t l p lft in
            let y : length (f.gone c) ≡ 0 = ap length p in
            let w : length vs * P c ≡ i * P c = ap (λ (o : ℕ). o * P c) (omega arith) in
            let m : r.0 < x = r.2 in
            record { channel = c; links = k; others = length vs; first = r.0; below = l; enough = enough; stands = stood; left = r.1; sum = omega arith }
        go (g ∷ gs) p =
            let a = under t ok-t c k (length vs) b l enough stood in
            let y : length (f.gone c) ≡ suc (length gs) = ap length p in
            let v : length vs + 1 ≤ i = omega arith in
            let d = mul-le-mul_right (P c) v in
            let o = left_least lft in
            under_more t b ((length vs + 1) * P c + R k c b.place) n (omega arith) a

    -- b comes, or less of its wait is left
    round_on : Ok z s → Stands b i (s.queue c) → Memᴰ b (blocks f.over) ⊎ Under z P R t b n
    round_on ok-s st =
        ⊎_elim
        (λ (m : Memᴰ b (f.gone c)). goes (h.flows.goes c b m))
        (λ (r : (vs : List Block) × (f.kept c ≡ vs ++ (b ∷ st.1)) × (length st.0 ≡ length (f.gone c) + length vs)).
        inr (stayed ok-s r.0 st.1 r.1 (sym st.3 ∙ r.2)))
        (cut st.0 b st.1 (f.gone c) (f.kept c) (sym st.2 ∙ h.flows.before c))
      where
        goes : ((z.next c b.place ≡ Here) × Memᴰ b (blocks f.over)) ⊎ ((e : ℕ) × (z.next c b.place ≡ Link e) × (f.new e ≡ b ∷ [])) →
            Memᴰ b (blocks f.over) ⊎ Under z P R t b n
        goes (inl g) = inl g.1
        goes (inr g) = inr (went g.0 g.1 g.2)

-- letting a block in only adds behind
enter_adds : (z : Net) (x : Block) (s : State) (c : ℕ) → (ws : List Block) × ((enter z x s).queue c ≡ s.queue c ++ ws)
enter_adds z x s c =
    by_at (z.links + x.door) c (λ v. (ws : List Block) × (cond v (s.queue (z.links + x.door) ++ (x ∷ [])) (s.queue c) ≡ s.queue c ++ ws))
    (λ e. (x ∷ [], ap (λ (j : ℕ). s.queue j ++ (x ∷ [])) (sym e))) (λ e. ([], sym (append-nil (s.queue c))))

first_stays : (z : Net) (x : Block) (s : State) (c : ℕ) (b : Block) (bs : List Block) → s.queue c ≡ b ∷ bs →
    (enter z x s).queue c ≡ b ∷ (bs ++ (enter_adds z x s c).0)
first_stays z x s c b bs q = let a = enter_adds z x s c in a.1 ∙ ap (λ (y : List Block). y ++ a.0) q

left_enter : {z : Net} {P : ℕ → ℕ} {s : State} {c n : ℕ} → (x : Block) → Left z P s c n → Left z P (enter z x s) c n
left_enter {z} {P} {s} {c} x (over b bs q p i) = over b (bs ++ (enter_adds z x s c).0) (first_stays z x s c b bs q) p i
left_enter {z} {P} {s} {c} x (ready b bs e q p f i) = ready b (bs ++ (enter_adds z x s c).0) e (first_stays z x s c b bs q) p f i
left_enter {z} {P} {s} {c} x (full b bs e y q p f d i) = full b (bs ++ (enter_adds z x s c).0) e y (first_stays z x s c b bs q) p f (left_enter x d) i

under_enter : {z : Net} {P : ℕ → ℕ} {R : ℕ → ℕ → ℕ → ℕ} {s : State} {b : Block} {n : ℕ} → (x : Block) → Under z P R s b n → Under z P R (enter z x s) b n
under_enter {z} {s = s} {b = b} x u =
    let a = enter_adds z x s u.channel in
    let st = u.stands in
    record {
      channel = u.channel;
      links = u.links;
      others = u.others;
      first = u.first;
      below = u.below;
      enough = u.enough;
      stands = (st.0, st.1 ++ a.0, a.1 ∙ ap (λ (y : List Block). y ++ a.0) st.2 ∙ append_assoc st.0 (b ∷ st.1) a.0, st.3);
      left = left_enter x u.left;
      sum = u.sum;
    }

-- all states on the way through a script are as they should be
abbrev Steady : Net → List Event → State → Type 0
Steady z [] s = Ok z s
Steady z (v ∷ vs) s = Ok z s × Steady z vs (step z v s)

steady_ok : (z : Net) (vs : List Event) (s : State) → Steady z vs s → Ok z s
steady_ok z [] s st = st
steady_ok z (v ∷ vs) s st = st.0

abbrev Comes : Net → State → List Event → Block → Type 0
Comes z s vs b = (ks : List Came) × ((play z vs s).came ≡ s.came ++ ks) × Memᴰ b (blocks ks)

module _ (order : InOrderOfRank) (z : Net) (good : Good z) where
  came_step : (v : Event) (s : State) → Ok z s → (ks : List Came) × ((step z v s).came ≡ s.came ++ ks)
  came_step (Enter x) s ok = ([], sym (append-nil s.came))
  came_step Round s ok = let r = passes order z good s ok.sound.turns in (r.0.over, r.1.flows.came)

  came_grows : (vs : List Event) (s : State) → Steady z vs s → (ks : List Came) × ((play z vs s).came ≡ s.came ++ ks)
  unfolding play
  came_grows [] s st = ([], sym (append-nil s.came))
  came_grows (v ∷ vs) s st =
      let a = came_step v s st.0 in
      let r = came_grows vs (step z v s) st.1 in
      (a.0 ++ r.0, r.1 ∙ ap (λ (y : List Came). y ++ r.0) a.1 ∙ append_assoc s.came a.0 r.0)

  module _ (P : ℕ → ℕ) (R : ℕ → ℕ → ℕ → ℕ) (pat : Patient z P R) (b : Block) where
    comes_in : (vs : List Event) (s : State) → Steady z vs s → Under z P R s b (rounds vs) → Comes z s vs b
    unfolding play rounds
    comes_in [] s st u = let k = left_least u.left in let m = u.sum in absurd (omega arith)
    comes_in (Enter x ∷ vs) s st u = comes_in vs (enter z x s) st.1 (under_enter x u)
    comes_in (Round ∷ vs) s st u =
        let r = passes order z good s st.0.sound.turns in
        let c = r.1.flows.came in
        ⊎_elim
        (λ (m : Memᴰ b (blocks r.0.over)).
        let g = came_grows vs (round z s) st.1 in
        (r.0.over ++ g.0, g.1 ∙ ap (λ (y : List Came). y ++ g.0) c ∙ append_assoc s.came r.0.over g.0, blocks_left r.0.over g.0 b m))
        (λ (w : Under z P R (round z s) b (rounds vs)).
        let g = comes_in vs (round z s) st.1 w in
        (r.0.over ++ g.0, g.1 ∙ ap (λ (y : List Came). y ++ g.0) c ∙ append_assoc s.came r.0.over g.0, blocks_right r.0.over g.0 b g.2))
        (round_on z good P R pat s (round z s) r.0 r.1 (steady_ok z vs (round z s) st.1) b u.channel u.links u.others u.first (rounds vs)
        u.below u.enough u.left u.sum st.0 u.stands)

pub play_append : (z : Net) (us vs : List Event) (s : State) → play z (us ++ vs) s ≡ play z vs (play z us s)
unfolding play
play_append z [] vs s = refl
play_append z (u ∷ us) vs s = play_append z us vs (step z u s)

module _ (order : InOrderOfRank) (right : CountRight) (z : Net) (good : Good z) where
  ok_after : (vs : List Event) → Orderly z vs → Ok z (after z vs)
  ok_after vs o = record { sound = sound order z good vs o; right = right z good vs o }

  steady : (later before : List Event) → Orderly z (before ++ later) → Steady z later (after z before)
  unfolding play
  steady [] before o = ok_after before (λ b i. o b (Memᴰ.append_left [] i))
  steady (v ∷ vs) before o = (
    ok_after before (λ b i. o b (Memᴰ.append_left (v ∷ vs) i)),
    subst (λ (s : State). Steady z vs s) (play_append z before (v ∷ []) (start z))
        (steady vs (before ++ (v ∷ [])) (subst (λ (ws : List Event). Orderly z ws) (sym (append_assoc before (v ∷ []) vs)) o)),
  )

  -- from a state that a script came to
  comes_within : (s : State) (later : List Event) → Steady z later s → (c i : ℕ) (b : Block) → c < channels z → Stands b i (s.queue c) →
      wait z i c b.place ≤ rounds later → Comes z s later b
  comes_within s later st c i b l sd w =
      let pat = patient z good in
      let R : ℕ → ℕ → ℕ → ℕ = λ k a p. onward k z a p in
      let h : height z c < suc z.links = (let m = height_most z c in omega arith) in
      let u = under z good (patience z) R pat s (steady_ok z later s st) c (suc z.links) i b l h sd in
      comes_in order z good (patience z) R pat b later s st (under_more z good (patience z) R pat s b (wait z i c b.place) (rounds later) w u)

orderly_both : (z : Net) (vs later : List Event) → Orderly z vs → Orderly z later → Orderly z (vs ++ later)
orderly_both z vs later o p b m = ⊎_elim (λ h. o b h) (λ h. p b h) (Memᴰ.append_cases vs m)

pub waits : InOrderOfRank → CountRight → Waits
waits order right z good vs o later p c i b l sd w =
    let r = comes_within order right z good (after z vs) later (steady order right z good later vs (orderly_both z vs later o p)) c i b l sd w in
    (r.0, ap (λ (s : State). s.came) (play_append z vs later (start z)) ∙ r.1, r.2)

pub enters : InOrderOfRank → CountRight → Enters
unfolding play
enters order right z good vs o later b p w =
    let s = after z vs in
    let d = z.links + b.door in
    let st = steady order right z good (Enter b ∷ later) vs (orderly_both z vs (Enter b ∷ later) o p) in
    let k = (p b (Memᴰ.head refl)).0 in
    let r = comes_within order right z good (enter z b s) later st.1 d (length (s.queue d)) b (omega arith)
    (s.queue d, [], at_same d (s.queue d ++ (b ∷ [])) s.queue, refl) w in
    (r.0, ap (λ (y : State). y.came) (play_append z vs (Enter b ∷ later) (start z)) ∙ r.1, r.2)
