-- Of one thing's faults the lowest number wins. Assumes nothing.
use Rattle.std.proofs.Common.{◌≡◌, ℕ, ◌<◌, ◌≤◌, false, eqb, ltb, leb, List, length, get_or, Some, None, Option, refl, ap, arith}
use Rattle.std.proofs.lemmas.Bool.{cond_both, eqb-true, eqb-false, ltb-true, ltb-false, leb-true, leb-false, both_ways}
use Rattle.wire.specs.declared.fault.Fault.{Fault}
use Rattle.wire.specs.declared.fault.Fault.TheVariants.{Kind, Cut}
use Rattle.wire.specs.Faults.{fault_number}
use Rattle.wire.specs.Heads.{within, beginning, unless}
use Rattle.wire.specs.Pairs.{word}
use Rattle.wire.specs.Cables.{head_by_bytes}
use Rattle.wire.specs.Tables.{frame_by_bytes}
use Rattle.wire.specs.Causes.{
  Lowest,
  BeginFault,
  ends,
  another,
  HeadFault,
  head_begins,
  bad_switches,
  bad_room,
  many_cables,
  CableFault,
  first,
  second,
  itself,
  FrameFault,
  frame_begins,
  many_channels,
  many_places,
  HeadLowest,
  CableLowest,
  FrameLowest,
}
use Rattle.wire.proofs.HeadLaws.{Begun, begun, within_true, within_fine}

-- of a cable
two_cable : (n a b : ℕ) (g : Fault) → CableFault n a b g → 2 ≤ fault_number g
two_cable n a b g (first l q) = let e : fault_number g ≡ 2 = ap fault_number q in omega arith
two_cable n a b g (second l q) = let e : fault_number g ≡ 2 = ap fault_number q in omega arith
two_cable n a b g (itself l q) = let e : fault_number g ≡ 3 = ap fault_number q in omega arith

three_cable : (n a b : ℕ) (g : Fault) → a < n → b < n → CableFault n a b g → 3 ≤ fault_number g
three_cable n a b g s t (first l q) = absurd (omega arith)
three_cable n a b g s t (second l q) = absurd (omega arith)
three_cable n a b g s t (itself l q) = let e : fault_number g ≡ 3 = ap fault_number q in omega arith

no_cable : (n a b : ℕ) (g : Fault) → a < n → b < n → (a ≡ b → ⊥) → CableFault n a b g → ⊥
no_cable n a b g s t ne (first l q) = omega arith
no_cable n a b g s t ne (second l q) = omega arith
no_cable n a b g s t ne (itself l q) = ne l

pub cable_lowest : CableLowest
cable_lowest n a b =
    cond_both (ltb a n) _ _ (λ r. Lowest (CableFault n a b) r)
    (λ t.
    cond_both (ltb b n) _ _ (λ r. Lowest (CableFault n a b) r)
    (λ u.
    cond_both (eqb a b) _ _ (λ r. Lowest (CableFault n a b) r)
    (λ e. (itself (eqb-true a b e) refl, λ g h. three_cable n a b g (ltb-true a n t) (ltb-true b n u) h))
    (λ e g h. no_cable n a b g (ltb-true a n t) (ltb-true b n u) (eqb-false a b e) h))
    (λ u. (second (ltb-false b n u) refl, λ g h. two_cable n a b g h)))
    (λ t. (first (ltb-false a n t) refl, λ g h. two_cable n a b g h))

-- of a file's first bytes
record Begins (kind size : ℕ) (bs : List ℕ) (f : Fault) : Type 0 where
  has : BeginFault kind size bs f
  one : fault_number f ≡ 1

begin_has : (kind size : ℕ) (bs : List ℕ) (f : Fault) → 0 < size → beginning kind size bs ≡ Some f
    → Begins kind size bs f
begin_has kind size bs f s =
    cond_both (eqb (length bs) 0) _ _ (λ (o : Option Fault). o ≡ Some f → Begins kind size bs f)
    (λ e q.
    let p : f ≡ Cut = cc in
    let z : length bs ≡ 0 = eqb-true (length bs) 0 e in
    record { has = ends (omega arith) p; one = ap fault_number p })
    (λ e.
    cond_both (eqb (get_or bs 0 0) kind) _ _ (λ (o : Option Fault). o ≡ Some f → Begins kind size bs f)
    (λ _.
    cond_both (ltb (length bs) size) _ _ (λ (o : Option Fault). o ≡ Some f → Begins kind size bs f)
    (λ l q.
    let p : f ≡ Cut = cc in
    record { has = ends (ltb-true (length bs) size l) p; one = ap fault_number p })
    (λ _ q. let z : ◌≡◌ {A = ℕ} 0 1 = cc in absurd (omega arith)))
    (λ k q.
    let p : f ≡ Kind (get_or bs 0 0) = cc in
    let ne : length bs ≡ 0 → ⊥ = eqb-false (length bs) 0 e in
    record {
      has = another (omega (arith, ne)) (eqb-false (get_or bs 0 0) kind k) p;
      one = ap fault_number p;
    }))

begin_one : (kind size : ℕ) (bs : List ℕ) (g : Fault) → BeginFault kind size bs g → fault_number g ≡ 1
begin_one kind size bs g (ends l q) = ap fault_number q
begin_one kind size bs g (another l n q) = ap fault_number q

begin_none : (kind size : ℕ) (bs : List ℕ) (g : Fault) → Begun kind size bs → BeginFault kind size bs g → ⊥
begin_none kind size bs g b (ends l q) = omega (arith, b.long)
begin_none kind size bs g b (another l n q) = n b.is

outside : (limit n : ℕ) → within limit n ≡ false → 0 < n → n ≤ limit → ⊥
outside limit n e a b = both_ways (within limit n) e (within_fine limit n a b)

-- of the head of a list of cables
one_head : (bs : List ℕ) (g : Fault) → HeadFault bs g → 1 ≤ fault_number g
one_head bs g (head_begins h) = omega (arith, begin_one 1 5 bs g h)
one_head bs g (bad_switches l n q) = let e : fault_number g ≡ 2 = ap fault_number q in omega arith
one_head bs g (bad_room l n q) = let e : fault_number g ≡ 2 = ap fault_number q in omega arith
one_head bs g (many_cables l n q) = let e : fault_number g ≡ 2 = ap fault_number q in omega arith

two_head : (bs : List ℕ) (g : Fault) → Begun 1 5 bs → HeadFault bs g → 2 ≤ fault_number g
two_head bs g b (head_begins h) = absurd (begin_none 1 5 bs g b h)
two_head bs g b (bad_switches l n q) = let e : fault_number g ≡ 2 = ap fault_number q in omega arith
two_head bs g b (bad_room l n q) = let e : fault_number g ≡ 2 = ap fault_number q in omega arith
two_head bs g b (many_cables l n q) = let e : fault_number g ≡ 2 = ap fault_number q in omega arith

no_head : (bs : List ℕ) (g : Fault) → Begun 1 5 bs → (0 < get_or bs 1 0) × (get_or bs 1 0 ≤ 64)
    → (0 < get_or bs 2 0) × (get_or bs 2 0 ≤ 32) → word (get_or bs 3 0) (get_or bs 4 0) ≤ 128 → HeadFault bs g → ⊥
no_head bs g b n m c (head_begins h) = begin_none 1 5 bs g b h
no_head bs g b n m c (bad_switches l x q) = x n.0 n.1
no_head bs g b n m c (bad_room l x q) = x m.0 m.1
no_head bs g b n m c (many_cables l x q) = omega arith

head_by : (bs : List ℕ) (o : Option Fault) → beginning 1 5 bs ≡ o
    → Lowest (HeadFault bs) (unless o (head_by_bytes (get_or bs 1 0) (get_or bs 2 0) (word (get_or bs 3 0) (get_or bs 4 0))))
head_by bs (Some f) p =
    let h : Begins 1 5 bs f = begin_has 1 5 bs f (omega arith) p in
    let one : fault_number f ≡ 1 = h.one in
    (head_begins h.has, λ g x. omega (arith, one, one_head bs g x))
head_by bs None p =
    let b : Begun 1 5 bs = begun 1 5 bs p in
    let n : ℕ = get_or bs 1 0 in
    let m : ℕ = get_or bs 2 0 in
    let count : ℕ = word (get_or bs 3 0) (get_or bs 4 0) in
    cond_both (within 64 n) _ _ (λ r. Lowest (HeadFault bs) r)
    (λ t.
    cond_both (within 32 m) _ _ (λ r. Lowest (HeadFault bs) r)
    (λ u.
    cond_both (leb count 128) _ _ (λ r. Lowest (HeadFault bs) r)
    (λ v g x. no_head bs g b (within_true 64 n t) (within_true 32 m u) (leb-true count 128 v) x)
    (λ v. (many_cables b.long (leb-false count 128 v) refl, λ g x. two_head bs g b x)))
    (λ u. (bad_room b.long (outside 32 m u) refl, λ g x. two_head bs g b x)))
    (λ t. (bad_switches b.long (outside 64 n t) refl, λ g x. two_head bs g b x))

pub head_lowest : HeadLowest
head_lowest bs = head_by bs (beginning 1 5 bs) refl

-- of the head of a table
one_frame : (bs : List ℕ) (g : Fault) → FrameFault bs g → 1 ≤ fault_number g
one_frame bs g (frame_begins h) = omega (arith, begin_one 4 4 bs g h)
one_frame bs g (many_channels l n q) = let e : fault_number g ≡ 10 = ap fault_number q in omega arith
one_frame bs g (many_places l n q) = let e : fault_number g ≡ 10 = ap fault_number q in omega arith

ten_frame : (bs : List ℕ) (g : Fault) → Begun 4 4 bs → FrameFault bs g → 10 ≤ fault_number g
ten_frame bs g b (frame_begins h) = absurd (begin_none 4 4 bs g b h)
ten_frame bs g b (many_channels l n q) = let e : fault_number g ≡ 10 = ap fault_number q in omega arith
ten_frame bs g b (many_places l n q) = let e : fault_number g ≡ 10 = ap fault_number q in omega arith

no_frame : (bs : List ℕ) (g : Fault) → Begun 4 4 bs → word (get_or bs 1 0) (get_or bs 2 0) ≤ 320 → get_or bs 3 0 ≤ 64
    → FrameFault bs g → ⊥
no_frame bs g b n m (frame_begins h) = begin_none 4 4 bs g b h
no_frame bs g b n m (many_channels l x q) = omega arith
no_frame bs g b n m (many_places l x q) = omega arith

frame_by : (bs : List ℕ) (o : Option Fault) → beginning 4 4 bs ≡ o
    → Lowest (FrameFault bs) (unless o (frame_by_bytes (word (get_or bs 1 0) (get_or bs 2 0)) (get_or bs 3 0)))
frame_by bs (Some f) p =
    let h : Begins 4 4 bs f = begin_has 4 4 bs f (omega arith) p in
    let one : fault_number f ≡ 1 = h.one in
    (frame_begins h.has, λ g x. omega (arith, one, one_frame bs g x))
frame_by bs None p =
    let b : Begun 4 4 bs = begun 4 4 bs p in
    let n : ℕ = word (get_or bs 1 0) (get_or bs 2 0) in
    let m : ℕ = get_or bs 3 0 in
    cond_both (leb n 320) _ _ (λ r. Lowest (FrameFault bs) r)
    (λ t.
    cond_both (leb m 64) _ _ (λ r. Lowest (FrameFault bs) r)
    (λ u g x. no_frame bs g b (leb-true n 320 t) (leb-true m 64 u) x)
    (λ u. (many_places b.long (leb-false m 64 u) refl, λ g x. ten_frame bs g b x)))
    (λ t. (many_channels b.long (leb-false n 320 t) refl, λ g x. ten_frame bs g b x))

pub frame_lowest : FrameLowest
frame_lowest bs = frame_by bs (beginning 4 4 bs) refl
