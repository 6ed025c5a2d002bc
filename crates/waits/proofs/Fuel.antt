-- Once there is fuel for the links of higher rank, more of it changes neither patience nor wait. Assumes nothing.
use Rattle.std.proofs.Common.{◌≡◌, ℕ, zero, suc, ◌+◌, ◌*◌, ◌<◌, ◌≤◌, max, cond, ltb, List, [], ◌∷◌, refl, ap, ◌∙◌, ⊎_elim, arith}
use Rattle.std.proofs.lemmas.Bool.{cond-true, cond-false, lt-ltb, le-ltb, cases_eq, cases_lt}
use Rattle.net.specs.declared.Entry.{Entry}
use Rattle.net.specs.declared.Entry.TheVariants.{Here, Link}
use Rattle.net.specs.Net.{Net, Good, channels}
use Rattle.machine.specs.Waits.{feeders, by_entry, worst, within, patience, onward}
use Rattle.waits.specs.Laws.{PatienceLaw, WaitLaw, Road, arrived, over, stores, share}

-- 1 where s is above r
unfoldable pub tick : ℕ → ℕ → ℕ
tick r s = cond (ltb r s) 1 0

tick_above : (r s : ℕ) → r < s → tick r s ≡ 1
unfolding tick
tick_above r s h = cond-true (ltb r s) 1 0 (lt-ltb r s h)

tick_not : (r s : ℕ) → s ≤ r → tick r s ≡ 0
unfolding tick
tick_not r s h = cond-false (ltb r s) 1 0 (le-ltb r s h)

tick_falls : (r s t : ℕ) → r ≤ s → tick s t ≤ tick r t
tick_falls r s t h = ⊎_elim
    (λ u. let a = tick_above s t u in let b = tick_above r t (omega arith) in omega arith)
    (λ u. let a = tick_not s t u in omega arith)
    (cases_lt s t)

tick_most : (r s : ℕ) → tick r s ≤ 1
tick_most r s = ⊎_elim (λ u. let a = tick_above r s u in omega arith) (λ u. let a = tick_not r s u in omega arith) (cases_lt r s)

-- how many of the numbers below n have a rank above r
unfoldable pub above : (ℕ → ℕ) → ℕ → ℕ → ℕ
above k r zero = 0
above k r (suc n) = tick r (k n) + above k r n

pub above_most : (k : ℕ → ℕ) (r n : ℕ) → above k r n ≤ n
unfolding above
above_most k r zero = omega arith
above_most k r (suc n) = let i = above_most k r n in let j = tick_most r (k n) in omega arith

-- fewer are above a higher rank
above_fewer : (k : ℕ → ℕ) (r s n : ℕ) → r ≤ s → above k s n ≤ above k r n
unfolding above
above_fewer k r s zero h = omega arith
above_fewer k r s (suc n) h = let i = above_fewer k r s n h in let j = tick_falls r s (k n) h in omega arith

-- and one fewer where the higher rank is that of a number below n
pub above_falls : (k : ℕ → ℕ) (r e n : ℕ) → e < n → r < k e → above k (k e) n < above k r n
unfolding above
above_falls k r e zero l h = absurd (omega arith)
above_falls k r e (suc n) l h = ⊎_elim
    (λ q.
    let i : above k (k e) n ≤ above k r n = above_fewer k r (k e) n (omega arith) in
    let same : k e ≡ k n = ap k q in
    let a : tick (k e) (k n) ≡ 0 = tick_not (k e) (k n) (omega arith) in
    let b : tick r (k n) ≡ 1 = tick_above r (k n) (omega arith) in
    omega arith)
    (λ u.
    let i : above k (k e) n < above k r n = above_falls k r e n (omega arith) h in
    let j : tick (k e) (k n) ≤ tick r (k n) = tick_falls r (k e) (k n) (omega arith) in
    omega arith)
    (cases_eq e n)

-- the links of z that have a higher rank than channel c
abbrev pub higher : Net → ℕ → ℕ
higher z c = above z.rank (z.rank c) z.links

pub higher_falls : (z : Net) → Good z → (c p e : ℕ) → z.next c p ≡ Link e → higher z e < higher z c
higher_falls z g c p e q = let r = g.rises c p e q in above_falls z.rank (z.rank c) e z.links r.0 r.1

pub higher_most : (z : Net) (c : ℕ) → higher z c ≤ z.links
higher_most z c = above_most z.rank (z.rank c) z.links

-- the worst depends on what the table's links have alone
worst_same : (z : Net) (f h : ℕ → ℕ) (c n : ℕ) → ((p e : ℕ) → z.next c p ≡ Link e → f e ≡ h e) → worst z f c n ≡ worst z h c n
unfolding worst
worst_same z f h c zero s = refl
worst_same z f h c (suc n) s =
    let i = worst_same z f h c n s in
    go (z.next c n) refl i
  where
    go : (x : Entry) → z.next c n ≡ x → worst z f c n ≡ worst z h c n →
        max (by_entry 1 f (z.next c n)) (worst z f c n) ≡ max (by_entry 1 h (z.next c n)) (worst z h c n)
    go Here q i = let a : by_entry 1 f (z.next c n) ≡ 1 = ap (by_entry 1 f) q in let b : by_entry 1 h (z.next c n) ≡ 1 = ap (by_entry 1 h) q in cc
    go (Link e) q i =
        let a : by_entry 1 f (z.next c n) ≡ f e = ap (by_entry 1 f) q in
        let b : by_entry 1 h (z.next c n) ≡ h e = ap (by_entry 1 h) q in
        let k : f e ≡ h e = s n e q in cc

-- fuel above the number of higher links is enough
pub within_same : (z : Net) → Good z → (j k c : ℕ) → higher z c < j → higher z c < k → within j z c ≡ within k z c
unfolding within
within_same z g zero k c m n = absurd (omega arith)
within_same z g (suc j) zero c m n = absurd (omega arith)
within_same z g (suc j) (suc k) c m n =
    worst_same z (λ e. feeders z e (channels z) * within j z e) (λ e. feeders z e (channels z) * within k z e) c z.places
    (λ p e q.
    let l = higher_falls z g c p e q in
    let i : within j z e ≡ within k z e = within_same z g j k e (omega arith) (omega arith) in
    ap (λ x. feeders z e (channels z) * x) i)

pub patience_law : PatienceLaw
unfolding within
patience_law z g c =
    worst_same z (λ e. feeders z e (channels z) * within z.links z e) (share z) c z.places
    (λ p e q.
    let l = higher_falls z g c p e q in
    let m = higher_most z c in
    let i : within z.links z e ≡ within (suc z.links) z e = within_same z g z.links (suc z.links) e (omega arith) (omega arith) in
    ap (λ x. feeders z e (channels z) * x) i)

by_same : (f h : ℕ → ℕ) (x : Entry) → ((e : ℕ) → x ≡ Link e → f e ≡ h e) → by_entry 0 f x ≡ by_entry 0 h x
by_same f h Here s = refl
by_same f h (Link e) s = s e refl

pub onward_same : (z : Net) → Good z → (j k c p : ℕ) → higher z c < j → higher z c < k → onward j z c p ≡ onward k z c p
unfolding onward
onward_same z g zero k c p m n = absurd (omega arith)
onward_same z g (suc j) zero c p m n = absurd (omega arith)
onward_same z g (suc j) (suc k) c p m n =
    by_same (λ e. z.store * patience z e + onward j z e p) (λ e. z.store * patience z e + onward k z e p) (z.next c p)
    (λ e q.
    let l = higher_falls z g c p e q in
    let i : onward j z e p ≡ onward k z e p = onward_same z g j k e p (omega arith) (omega arith) in
    ap (λ x. z.store * patience z e + x) i)

-- what the rest of a road takes
abbrev pub rest : Net → ℕ → ℕ → ℕ
rest z c p = onward (suc z.links) z c p

pub rest_law : (z : Net) → Good z → (c p : ℕ) → rest z c p ≡ by_entry 0 (λ e. z.store * patience z e + rest z e p) (z.next c p)
unfolding onward
rest_law z g c p =
    by_same (λ e. z.store * patience z e + onward z.links z e p) (λ e. z.store * patience z e + rest z e p) (z.next c p)
    (λ e q.
    let l = higher_falls z g c p e q in
    let m = higher_most z c in
    let i : onward z.links z e p ≡ rest z e p = onward_same z g z.links (suc z.links) e p (omega arith) (omega arith) in
    ap (λ x. z.store * patience z e + x) i)

pub rest_here : (z : Net) → Good z → (c p : ℕ) → z.next c p ≡ Here → rest z c p ≡ 0
rest_here z g c p q = rest_law z g c p ∙ ap (by_entry 0 (λ e. z.store * patience z e + rest z e p)) q

pub rest_over : (z : Net) → Good z → (c p e : ℕ) → z.next c p ≡ Link e → rest z c p ≡ z.store * patience z e + rest z e p
rest_over z g c p e q = rest_law z g c p ∙ ap (by_entry 0 (λ e. z.store * patience z e + rest z e p)) q

road_sum : (z : Net) → Good z → {p c : ℕ} {es : List ℕ} → Road z p c es → rest z c p ≡ stores z es
unfolding stores
road_sum z g {p} {c} (arrived q) = rest_here z g c p q
road_sum z g {p} {c} (over {e = e} q r) = rest_over z g c p e q ∙ ap (λ x. z.store * patience z e + x) (road_sum z g r)

has_road : (z : Net) → Good z → (k p c : ℕ) → higher z c < k → (es : List ℕ) × Road z p c es
has_road z g zero p c m = absurd (omega arith)
has_road z g (suc k) p c m = go (z.next c p) refl (λ e l. has_road z g k p e l)
  where
    go : (x : Entry) → z.next c p ≡ x → ((e : ℕ) → higher z e < k → (es : List ℕ) × Road z p e es) → (es : List ℕ) × Road z p c es
    go Here q f = ([], arrived q)
    go (Link e) q f =
        let l = higher_falls z g c p e q in
        let r = f e (omega arith) in
        (e ∷ r.0, over q r.1)

pub wait_law : WaitLaw
wait_law z g c p = (
  let m = higher_most z c in has_road z g (suc z.links) p c (omega arith),
  λ i es r. ap (λ x. (i + 1) * patience z c + x) (road_sum z g r),
)
