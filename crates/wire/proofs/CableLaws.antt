-- Lists of cables: accepted files are encodings, encodings are accepted, cuts are refused. Assumes nothing.
use Rattle.std.proofs.Common.{◌≡◌, ℕ, ◌+◌, ◌*◌, ◌/◌, ◌%◌, ◌<◌, ◌≤◌, eqb, ltb, leb, List, ◌∷◌, length, get_or, take, drop, Some, None, Ok, Err, Option, Result, sym, refl, ap, ◌∙◌, subst, arith}
use Rattle.std.proofs.lemmas.List.{get_or-take}
use Rattle.std.proofs.lemmas.Bool.{cond_both, cond-true, cond-false, eqb-false, ltb-true, leb-true, lt-ltb, le-leb, ne_eqb}
use Rattle.net.specs.declared.Cable.{Cable}
use Rattle.wire.specs.declared.cables.Head.{Head}
use Rattle.wire.specs.declared.fault.Fault.{Fault}
use Rattle.wire.specs.declared.fault.Fault.TheVariants.{Cut}
use Rattle.wire.specs.Pairs.{Each, Bytes, word, pair_bytes}
use Rattle.wire.specs.Files.{file_read, read_as}
use Rattle.wire.specs.Heads.{within, beginning, unless}
use Rattle.net.specs.Cables.{Joins}
use Rattle.wire.specs.Cables.{Cables, Proper, cable_by, head_by_bytes, head_of, list_of, encode_cables}
use Rattle.wire.specs.Laws.{CablesEncoded, CablesProper, CablesBack, CablesCut}
use Rattle.wire.proofs.PairLaws.{wrong, each_at, each_drop, Filled, pairs_bytes, pairs_each}
use Rattle.wire.proofs.FileLaws.{Read, read_before, Accepted, accepted, file_back, file_cut}
use Rattle.wire.proofs.HeadLaws.{Begun, begun, begins_well, begins_cut, begins_still, Fine, unless_ok, within_true, within_fine, five}

abbrev high_of : Cable → ℕ
high_of c = c.a

abbrev low_of : Cable → ℕ
low_of c = c.b

cable_reads : (n a b : ℕ) (x : Cable) → cable_by n a b ≡ Ok x → (x.a ≡ a) × (x.b ≡ b) × Joins n x
cable_reads n a b x =
    cond_both (ltb a n) _ _ (λ (r : Result Cable Fault). r ≡ Ok x → (x.a ≡ a) × (x.b ≡ b) × Joins n x)
    (λ t.
    cond_both (ltb b n) _ _ (λ (r : Result Cable Fault). r ≡ Ok x → (x.a ≡ a) × (x.b ≡ b) × Joins n x)
    (λ u.
    cond_both (eqb a b) _ _ (λ (r : Result Cable Fault). r ≡ Ok x → (x.a ≡ a) × (x.b ≡ b) × Joins n x)
    (λ _ q. wrong _ _ x q)
    (λ v q.
    let e : record { a = a; b = b } ≡ x = cc in
    let ea : x.a ≡ a = sym (ap high_of e) in
    let eb : x.b ≡ b = sym (ap low_of e) in
    let la : a < n = ltb-true a n t in
    let lb : b < n = ltb-true b n u in
    let ne : a ≡ b → ⊥ = eqb-false a b v in
    (ea, eb, record { from = omega arith; to = omega arith; apart = λ h. ne (sym ea ∙ (h ∙ eb)) })))
    (λ _ q. wrong _ _ x q))
    (λ _ q. wrong _ _ x q)

cable_back : (n : ℕ) (x : Cable) → Joins n x → cable_by n x.a x.b ≡ Ok x
cable_back n x j =
    cond-true (ltb x.a n) _ _ (lt-ltb x.a n j.from)
    ∙ (cond-true (ltb x.b n) _ _ (lt-ltb x.b n j.to)
    ∙ cond-false (eqb x.a x.b) _ _ (ne_eqb x.a x.b j.apart))

-- what an accepted head says
record Headed (n m count : ℕ) (h : Head) : Type 0 where
  is : record { switches = n; room = m; count = count } ≡ h
  some : 0 < n
  most : n ≤ 64
  roomy : 0 < m
  small : m ≤ 32
  few : count ≤ 128

headed : (n m count : ℕ) (h : Head) → head_by_bytes n m count ≡ Ok h → Headed n m count h
headed n m count h =
    cond_both (within 64 n) _ _ (λ (r : Result Head Fault). r ≡ Ok h → Headed n m count h)
    (λ t.
    cond_both (within 32 m) _ _ (λ (r : Result Head Fault). r ≡ Ok h → Headed n m count h)
    (λ u.
    cond_both (leb count 128) _ _ (λ (r : Result Head Fault). r ≡ Ok h → Headed n m count h)
    (λ v q.
    let e : record { switches = n; room = m; count = count } ≡ h = cc in
    let wn : (0 < n) × (n ≤ 64) = within_true 64 n t in
    let wm : (0 < m) × (m ≤ 32) = within_true 32 m u in
    record {
      is = e;
      some = wn.0;
      most = wn.1;
      roomy = wm.0;
      small = wm.1;
      few = leb-true count 128 v;
    })
    (λ _ q. wrong _ _ h q))
    (λ _ q. wrong _ _ h q))
    (λ _ q. wrong _ _ h q)

head_fine : (n m count : ℕ) → 0 < n → n ≤ 64 → 0 < m → m ≤ 32 → count ≤ 128
    → head_by_bytes n m count ≡ Ok (record { switches = n; room = m; count = count })
head_fine n m count a b c d e =
    cond-true (within 64 n) _ _ (within_fine 64 n a b)
    ∙ (cond-true (within 32 m) _ _ (within_fine 32 m c d) ∙ cond-true (leb count 128) _ _ (le-leb count 128 e))

-- the numbers that the head's bytes spell
abbrev spelt : List ℕ → Result Head Fault
spelt bs = head_by_bytes (get_or bs 1 0) (get_or bs 2 0) (word (get_or bs 3 0) (get_or bs 4 0))

-- a file of cables, and the one that was read
abbrev made_of : Head → ℕ → ℕ → Result Cable Fault
made_of h = cable_by h.switches

abbrev count_of : Head → ℕ
count_of h = h.count

abbrev CablesOf : List ℕ → Head → List Cable → Type 0
CablesOf bs h cs = Accepted head_of made_of count_of 5 bs h cs

-- the head of an accepted file, by its bytes
record Spelt (bs : List ℕ) (h : Head) (cs : List Cable) : Type 0 where
  begin : Begun 1 5 bs
  nums : Headed (get_or bs 1 0) (get_or bs 2 0) (word (get_or bs 3 0) (get_or bs 4 0)) h
  switches : h.switches ≡ get_or bs 1 0
  room : h.room ≡ get_or bs 2 0
  count : length cs ≡ 256 * get_or bs 3 0 + get_or bs 4 0
  each : Each (Joins h.switches) cs

spelt_out : (bs : List ℕ) (h : Head) (cs : List Cable) → CablesOf bs h cs → Spelt bs h cs
spelt_out bs h cs a =
    let f : Fine (beginning 1 5 bs) (spelt bs) h = unless_ok _ _ _ a.is_head in
    let n : Headed (get_or bs 1 0) (get_or bs 2 0) (word (get_or bs 3 0) (get_or bs 4 0)) h =
    headed _ _ _ _ f.value in
    let w : Filled (Joins h.switches) h.count cs =
    pairs_each (made_of h) (Joins h.switches) (λ x y z e. (cable_reads h.switches x y z e).2) h.count 5 (drop 5 bs) cs a.row in
    record {
      begin = begun 1 5 bs f.none;
      nums = n;
      switches = sym (ap (λ (x : Head). x.switches) n.is);
      room = sym (ap (λ (x : Head). x.room) n.is);
      count = w.count ∙ sym (ap (λ (x : Head). x.count) n.is);
      each = w.each;
    }

list_proper : (bs : List ℕ) (h : Head) (cs : List Cable) → Spelt bs h cs → Proper (list_of (h, cs))
list_proper bs h cs s =
    record {
      some = omega (arith, s.switches, s.nums.some);
      most = omega (arith, s.switches, s.nums.most);
      roomy = omega (arith, s.room, s.nums.roomy);
      small = omega (arith, s.room, s.nums.small);
      few = omega (arith, s.count, s.nums.few);
      each = s.each;
    }

pub cables_proper : CablesProper
cables_proper bs c q =
    let r : Read list_of (file_read head_of made_of count_of 5 bs) c = read_before list_of _ c q in
    subst Proper r.same
    (list_proper bs r.value.0 r.value.1
    (spelt_out bs r.value.0 r.value.1 (accepted head_of made_of count_of 5 bs r.value.0 r.value.1 r.is)))

list_encoded : (bs : List ℕ) (h : Head) (cs : List Cable) → Bytes bs → CablesOf bs h cs → encode_cables (list_of (h, cs)) ≡ bs
list_encoded bs h cs small a =
    let s : Spelt bs h cs = spelt_out bs h cs a in
    let k : 5 ≤ length bs = s.begin.long in
    let l4 : get_or bs 4 0 < 256 = each_at (λ (x : ℕ). x < 256) bs 4 0 small (omega arith) in
    let e0 : get_or bs 0 0 ≡ 1 = s.begin.is in
    let e1 : h.switches ≡ get_or bs 1 0 = s.switches in
    let e2 : h.room ≡ get_or bs 2 0 = s.room in
    let e3 : length cs / 256 ≡ get_or bs 3 0 = omega (arith, s.count, l4) in
    let e4 : length cs % 256 ≡ get_or bs 4 0 = omega (arith, s.count, l4) in
    let e5 : pair_bytes high_of low_of cs ≡ drop 5 bs =
    pairs_bytes (made_of h) high_of low_of (λ x y z _ _ e. let r = cable_reads h.switches x y z e in (r.0, r.1))
    h.count 5 (drop 5 bs) cs (each_drop (λ (x : ℕ). x < 256) 5 bs small) a.row in
    let all : bs ≡ get_or bs 0 0 ∷ get_or bs 1 0 ∷ get_or bs 2 0 ∷ get_or bs 3 0 ∷ get_or bs 4 0 ∷ drop 5 bs = five bs k in
    cc

pub cables_encoded : CablesEncoded
cables_encoded bs c small q =
    let r : Read list_of (file_read head_of made_of count_of 5 bs) c = read_before list_of _ c q in
    subst (λ (l : Cables). encode_cables l ≡ bs) r.same
    (list_encoded bs r.value.0 r.value.1 small
    (accepted head_of made_of count_of 5 bs r.value.0 r.value.1 r.is))

pub cables_back : CablesBack
cables_back c p =
    let n : ℕ = length c.cables in
    let bs : List ℕ = encode_cables c in
    let h : Head = record { switches = c.switches; room = c.room; count = n } in
    let b : beginning 1 5 bs ≡ None =
    begins_well 1 5 bs (record { any = omega arith; is = refl; long = omega arith }) in
    let w : word (n / 256) (n % 256) ≡ n = omega arith in
    let e : head_of bs ≡ Ok h =
    ap (λ (o : Option Fault). unless o (head_by_bytes c.switches c.room (word (n / 256) (n % 256)))) b
    ∙ (ap (λ (m : ℕ). head_by_bytes c.switches c.room m) w
    ∙ head_fine c.switches c.room n p.some p.most p.roomy p.small p.few) in
    ap (read_as list_of)
    (file_back head_of made_of count_of 5 high_of low_of (Joins c.switches) bs h c.cables e refl refl p.each
    (cable_back c.switches))

-- a cut after the head leaves the head
head_still : (bs : List ℕ) (h : Head) (k : ℕ) → head_of bs ≡ Ok h → 5 ≤ k → k ≤ length bs → head_of (take k bs) ≡ Ok h
head_still bs h k q g l =
    let f : Fine (beginning 1 5 bs) (spelt bs) h = unless_ok _ _ _ q in
    let b : Begun 1 5 (take k bs) = begins_still 1 5 bs k (begun 1 5 bs f.none) (omega arith) g l in
    let v : spelt bs ≡ Ok h = f.value in
    let z : beginning 1 5 (take k bs) ≡ None = begins_well 1 5 (take k bs) b in
    let e1 : get_or (take k bs) 1 0 ≡ get_or bs 1 0 = get_or-take k bs 1 0 (omega arith) in
    let e2 : get_or (take k bs) 2 0 ≡ get_or bs 2 0 = get_or-take k bs 2 0 (omega arith) in
    let e3 : get_or (take k bs) 3 0 ≡ get_or bs 3 0 = get_or-take k bs 3 0 (omega arith) in
    let e4 : get_or (take k bs) 4 0 ≡ get_or bs 4 0 = get_or-take k bs 4 0 (omega arith) in
    ap (λ (o : Option Fault). unless o (spelt (take k bs))) z
    ∙ (ap (λ (x : ℕ).
    head_by_bytes x (get_or (take k bs) 2 0) (word (get_or (take k bs) 3 0) (get_or (take k bs) 4 0))) e1
    ∙ (ap (λ (x : ℕ). head_by_bytes (get_or bs 1 0) x (word (get_or (take k bs) 3 0) (get_or (take k bs) 4 0))) e2
    ∙ (ap (λ (x : ℕ). head_by_bytes (get_or bs 1 0) (get_or bs 2 0) (word x (get_or (take k bs) 4 0))) e3
    ∙ (ap (λ (x : ℕ). head_by_bytes (get_or bs 1 0) (get_or bs 2 0) (word (get_or bs 3 0) x)) e4 ∙ v))))

-- a cut inside of the head cuts the head
head_cut : (bs : List ℕ) (h : Head) (k : ℕ) → head_of bs ≡ Ok h → k < 5 → head_of (take k bs) ≡ Err Cut
head_cut bs h k q l =
    let f : Fine (beginning 1 5 bs) (spelt bs) h = unless_ok _ _ _ q in
    let z : beginning 1 5 (take k bs) ≡ Some Cut = begins_cut 1 5 bs k (begun 1 5 bs f.none) l in
    ap (λ (o : Option Fault). unless o (spelt (take k bs))) z

pub cables_cut : CablesCut
cables_cut bs c k q l =
    let r : Read list_of (file_read head_of made_of count_of 5 bs) c = read_before list_of _ c q in
    let h : Head = r.value.0 in
    let a : CablesOf bs h r.value.1 = accepted head_of made_of count_of 5 bs h r.value.1 r.is in
    ap (read_as list_of)
    (file_cut head_of made_of count_of 5 bs h r.value.1 k a l (head_cut bs h k a.is_head)
    (λ g. head_still bs h k a.is_head g (omega arith)))
