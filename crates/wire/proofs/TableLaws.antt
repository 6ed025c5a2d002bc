-- Foreign tables: accepted files are encodings, encodings are accepted, cuts are refused. Assumes nothing.
use Rattle.std.proofs.Common.{◌≡◌, ℕ, ◌+◌, ◌-◌, ◌*◌, ◌/◌, ◌%◌, ◌<◌, ◌≤◌, eqb, leb, List, ◌∷◌, length, get_or, take, drop, Some, None, Ok, Err, Option, Result, sym, refl, ap, ◌∙◌, subst, arith}
use Rattle.std.proofs.lemmas.List.{get_or-take}
use Rattle.std.proofs.lemmas.Bool.{cond_both, cond-true, cond-false, eqb-true, eqb-false, leb-true, le-leb, ne_eqb}
use Rattle.net.specs.declared.Entry.{Entry}
use Rattle.net.specs.declared.Entry.TheVariants.{Here, Link}
use Rattle.wire.specs.declared.table.Frame.{Frame}
use Rattle.wire.specs.declared.fault.Fault.{Fault}
use Rattle.wire.specs.declared.fault.Fault.TheVariants.{Cut}
use Rattle.wire.specs.Pairs.{Bytes, word, pair_bytes}
use Rattle.wire.specs.Files.{file_read, read_as}
use Rattle.wire.specs.Heads.{beginning, unless}
use Rattle.wire.specs.Tables.{Foreign, Leads, entry_by_bytes, entry_of, entry_number, Shaped, frame_by_bytes, frame_of, table_of, encode_table}
use Rattle.wire.specs.Laws.{TableEncoded, TableShaped, TableBack, TableCut}
use Rattle.wire.proofs.PairLaws.{wrong, each_at, each_drop, Filled, pairs_bytes, pairs_each}
use Rattle.wire.proofs.FileLaws.{Read, read_before, Accepted, accepted, file_back, file_cut}
use Rattle.wire.proofs.HeadLaws.{Begun, begun, begins_well, begins_cut, begins_still, Fine, unless_ok, four}

abbrev high_of : Entry → ℕ
high_of e = entry_number e / 256

abbrev low_of : Entry → ℕ
low_of e = entry_number e % 256

abbrev Numbered : ℕ → ℕ → Entry → Type 0
Numbered channels e x = (entry_number x ≡ e) × Leads channels x

entry_numbered : (channels e : ℕ) (x : Entry) → entry_by_bytes channels e ≡ Ok x → Numbered channels e x
entry_numbered channels e x =
    cond_both (eqb e 0) _ _ (λ (r : Result Entry Fault). r ≡ Ok x → Numbered channels e x)
    (λ t q.
    let h : Here ≡ x = cc in
    subst (λ (y : Entry). Numbered channels e y) h (sym (eqb-true e 0 t), tt))
    (λ t.
    cond_both (leb e channels) _ _ (λ (r : Result Entry Fault). r ≡ Ok x → Numbered channels e x)
    (λ u q.
    let h : Link (e - 1) ≡ x = cc in
    let ne : e ≡ 0 → ⊥ = eqb-false e 0 t in
    let le : e ≤ channels = leb-true e channels u in
    subst (λ (y : Entry). Numbered channels e y) h (omega (arith, ne), omega (arith, ne)))
    (λ _ q. wrong _ _ x q))

entry_reads : (channels a b : ℕ) (x : Entry) → b < 256 → entry_of channels a b ≡ Ok x
    → (high_of x ≡ a) × (low_of x ≡ b) × Leads channels x
entry_reads channels a b x h q =
    let n : Numbered channels (word a b) x = entry_numbered channels (word a b) x q in
    let e : entry_number x ≡ 256 * a + b = n.0 in
    (omega (arith, e), omega (arith, e), n.1)

entry_from_back : (channels : ℕ) (x : Entry) → Leads channels x → entry_by_bytes channels (entry_number x) ≡ Ok x
entry_from_back channels Here l = refl
entry_from_back channels (Link c) l =
    let e : c + 1 - 1 ≡ c = omega arith in
    cond-false (eqb (c + 1) 0) _ _ (ne_eqb (c + 1) 0 (λ z. omega arith))
    ∙ (cond-true (leb (c + 1) channels) _ _ (le-leb (c + 1) channels (omega arith))
    ∙ ap (λ (m : ℕ). Ok (Link m)) e)

entry_back : (channels : ℕ) (x : Entry) → Leads channels x → entry_of channels (high_of x) (low_of x) ≡ Ok x
entry_back channels x l =
    let e : word (entry_number x / 256) (entry_number x % 256) ≡ entry_number x = omega arith in
    ap (entry_by_bytes channels) e ∙ entry_from_back channels x l

-- what an accepted head says
record Framed (channels places : ℕ) (f : Frame) : Type 0 where
  is : record { channels = channels; places = places } ≡ f
  few : channels ≤ 320
  small : places ≤ 64

framed : (n m : ℕ) (f : Frame) → frame_by_bytes n m ≡ Ok f → Framed n m f
framed n m f =
    cond_both (leb n 320) _ _ (λ (r : Result Frame Fault). r ≡ Ok f → Framed n m f)
    (λ t.
    cond_both (leb m 64) _ _ (λ (r : Result Frame Fault). r ≡ Ok f → Framed n m f)
    (λ u q.
    let e : record { channels = n; places = m } ≡ f = cc in
    record { is = e; few = leb-true n 320 t; small = leb-true m 64 u })
    (λ _ q. wrong _ _ f q))
    (λ _ q. wrong _ _ f q)

frame_fine : (n m : ℕ) → n ≤ 320 → m ≤ 64 → frame_by_bytes n m ≡ Ok (record { channels = n; places = m })
frame_fine n m a b =
    cond-true (leb n 320) _ _ (le-leb n 320 a) ∙ cond-true (leb m 64) _ _ (le-leb m 64 b)

-- the numbers that the head's bytes spell
abbrev spelt : List ℕ → Result Frame Fault
spelt bs = frame_by_bytes (word (get_or bs 1 0) (get_or bs 2 0)) (get_or bs 3 0)

-- a foreign table, and the one that was read
abbrev made_of : Frame → ℕ → ℕ → Result Entry Fault
made_of f = entry_of f.channels

abbrev count_of : Frame → ℕ
count_of f = f.channels * f.places

abbrev EntriesOf : List ℕ → Frame → List Entry → Type 0
EntriesOf bs f es = Accepted frame_of made_of count_of 4 bs f es

-- the head of an accepted file, by its bytes
record Spelt (bs : List ℕ) (f : Frame) (es : List Entry) : Type 0 where
  begin : Begun 4 4 bs
  nums : Framed (word (get_or bs 1 0) (get_or bs 2 0)) (get_or bs 3 0) f
  channels : f.channels ≡ 256 * get_or bs 1 0 + get_or bs 2 0
  places : f.places ≡ get_or bs 3 0
  row : Filled (Leads f.channels) (f.channels * f.places) es

spelt_out : (bs : List ℕ) (f : Frame) (es : List Entry) → EntriesOf bs f es → Spelt bs f es
spelt_out bs f es a =
    let x : Fine (beginning 4 4 bs) (spelt bs) f = unless_ok _ _ _ a.is_head in
    let n : Framed (word (get_or bs 1 0) (get_or bs 2 0)) (get_or bs 3 0) f = framed _ _ _ x.value in
    record {
      begin = begun 4 4 bs x.none;
      nums = n;
      channels = sym (ap (λ (y : Frame). y.channels) n.is);
      places = sym (ap (λ (y : Frame). y.places) n.is);
      row =
          pairs_each (made_of f) (Leads f.channels) (λ x y z e. (entry_numbered f.channels (word x y) z e).1)
          (count_of f) 4 (drop 4 bs) es a.row;
    }

foreign_shaped : (bs : List ℕ) (f : Frame) (es : List Entry) → Spelt bs f es → Shaped (table_of (f, es))
foreign_shaped bs f es s =
    record {
      few = omega (arith, s.channels, s.nums.few);
      small = omega (arith, s.places, s.nums.small);
      full = s.row.count;
      each = s.row.each;
    }

pub table_shaped : TableShaped
table_shaped bs t q =
    let r : Read table_of (file_read frame_of made_of count_of 4 bs) t = read_before table_of _ t q in
    subst Shaped r.same
    (foreign_shaped bs r.value.0 r.value.1
    (spelt_out bs r.value.0 r.value.1 (accepted frame_of made_of count_of 4 bs r.value.0 r.value.1 r.is)))

foreign_encoded : (bs : List ℕ) (f : Frame) (es : List Entry) → Bytes bs → EntriesOf bs f es → encode_table (table_of (f, es)) ≡ bs
foreign_encoded bs f es small a =
    let s : Spelt bs f es = spelt_out bs f es a in
    let k : 4 ≤ length bs = s.begin.long in
    let l2 : get_or bs 2 0 < 256 = each_at (λ (x : ℕ). x < 256) bs 2 0 small (omega arith) in
    let e0 : get_or bs 0 0 ≡ 4 = s.begin.is in
    let e1 : f.channels / 256 ≡ get_or bs 1 0 = omega (arith, s.channels, l2) in
    let e2 : f.channels % 256 ≡ get_or bs 2 0 = omega (arith, s.channels, l2) in
    let e3 : f.places ≡ get_or bs 3 0 = s.places in
    let e4 : pair_bytes high_of low_of es ≡ drop 4 bs =
    pairs_bytes (made_of f) high_of low_of (λ x y z _ l e. let r = entry_reads f.channels x y z l e in (r.0, r.1))
    (count_of f) 4 (drop 4 bs) es (each_drop (λ (x : ℕ). x < 256) 4 bs small) a.row in
    let all : bs ≡ get_or bs 0 0 ∷ get_or bs 1 0 ∷ get_or bs 2 0 ∷ get_or bs 3 0 ∷ drop 4 bs = four bs k in
    cc

pub table_encoded : TableEncoded
table_encoded bs t small q =
    let r : Read table_of (file_read frame_of made_of count_of 4 bs) t = read_before table_of _ t q in
    subst (λ (l : Foreign). encode_table l ≡ bs) r.same
    (foreign_encoded bs r.value.0 r.value.1 small
    (accepted frame_of made_of count_of 4 bs r.value.0 r.value.1 r.is))

pub table_back : TableBack
table_back t p =
    let n : ℕ = t.channels in
    let bs : List ℕ = encode_table t in
    let f : Frame = record { channels = n; places = t.places } in
    let b : beginning 4 4 bs ≡ None =
    begins_well 4 4 bs (record { any = omega arith; is = refl; long = omega arith }) in
    let w : word (n / 256) (n % 256) ≡ n = omega arith in
    let e : frame_of bs ≡ Ok f =
    ap (λ (o : Option Fault). unless o (frame_by_bytes (word (n / 256) (n % 256)) t.places)) b
    ∙ (ap (λ (m : ℕ). frame_by_bytes m t.places) w ∙ frame_fine n t.places p.few p.small) in
    ap (read_as table_of)
    (file_back frame_of made_of count_of 4 high_of low_of (Leads n) bs f t.entries e refl (sym p.full) p.each
    (entry_back n))

-- a cut after the head leaves the head
frame_still : (bs : List ℕ) (f : Frame) (k : ℕ) → frame_of bs ≡ Ok f → 4 ≤ k → k ≤ length bs
    → frame_of (take k bs) ≡ Ok f
frame_still bs f k q g l =
    let x : Fine (beginning 4 4 bs) (spelt bs) f = unless_ok _ _ _ q in
    let b : Begun 4 4 (take k bs) = begins_still 4 4 bs k (begun 4 4 bs x.none) (omega arith) g l in
    let v : spelt bs ≡ Ok f = x.value in
    let z : beginning 4 4 (take k bs) ≡ None = begins_well 4 4 (take k bs) b in
    let e1 : get_or (take k bs) 1 0 ≡ get_or bs 1 0 = get_or-take k bs 1 0 (omega arith) in
    let e2 : get_or (take k bs) 2 0 ≡ get_or bs 2 0 = get_or-take k bs 2 0 (omega arith) in
    let e3 : get_or (take k bs) 3 0 ≡ get_or bs 3 0 = get_or-take k bs 3 0 (omega arith) in
    ap (λ (o : Option Fault). unless o (spelt (take k bs))) z
    ∙ (ap (λ (y : ℕ). frame_by_bytes (word y (get_or (take k bs) 2 0)) (get_or (take k bs) 3 0)) e1
    ∙ (ap (λ (y : ℕ). frame_by_bytes (word (get_or bs 1 0) y) (get_or (take k bs) 3 0)) e2
    ∙ (ap (λ (y : ℕ). frame_by_bytes (word (get_or bs 1 0) (get_or bs 2 0)) y) e3 ∙ v)))

-- a cut inside of the head cuts the head
frame_cut : (bs : List ℕ) (f : Frame) (k : ℕ) → frame_of bs ≡ Ok f → k < 4 → frame_of (take k bs) ≡ Err Cut
frame_cut bs f k q l =
    let x : Fine (beginning 4 4 bs) (spelt bs) f = unless_ok _ _ _ q in
    let z : beginning 4 4 (take k bs) ≡ Some Cut = begins_cut 4 4 bs k (begun 4 4 bs x.none) l in
    ap (λ (o : Option Fault). unless o (spelt (take k bs))) z

pub table_cut : TableCut
table_cut bs t k q l =
    let r : Read table_of (file_read frame_of made_of count_of 4 bs) t = read_before table_of _ t q in
    let f : Frame = r.value.0 in
    let a : EntriesOf bs f r.value.1 = accepted frame_of made_of count_of 4 bs f r.value.1 r.is in
    ap (read_as table_of)
    (file_cut frame_of made_of count_of 4 bs f r.value.1 k a l (frame_cut bs f k a.is_head)
    (λ g. frame_still bs f k a.is_head g (omega arith)))
