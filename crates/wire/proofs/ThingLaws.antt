-- Things of a script: what is read is the encoding, the encoding is read, a cut is refused. Assumes nothing.
use Rattle.std.proofs.Common.{◌≡◌, ℕ, zero, suc, ◌+◌, ◌/◌, ◌%◌, ◌<◌, ◌≤◌, eqb, ltb, List, [], ◌∷◌, ◌++◌, length, get_or, take, drop, Ok, Err, Result, sym, refl, ap, ◌∙◌, subst, arith}
use Rattle.std.proofs.lemmas.List.{length-take}
use Rattle.std.proofs.lemmas.Bool.{cond_both, eqb-true, ltb-false}
use Rattle.wire.specs.declared.script.Thing.{Thing}
use Rattle.wire.specs.declared.script.Thing.TheVariants.{Block, Word, Round, Show}
use Rattle.wire.specs.declared.fault.Fault.TheVariants.{Cut}
use Rattle.wire.specs.declared.fault.Refusal.{Refusal}
use Rattle.wire.specs.Faults.{refusal}
use Rattle.wire.specs.Laws.{ThingEncoded, ThingBack, ThingCut}
use Rattle.wire.specs.Pairs.{Bytes, word}
use Rattle.wire.specs.Script.{name4, block_of, sized, thing_read, encode_thing}
use Rattle.wire.proofs.PairLaws.{wrong, each_at}
use Rattle.wire.proofs.Things.{link_of, sized_fits, sized_cut}

-- what a thing that is read can be
data View (at k : ℕ) (ds : List ℕ) (x : Thing × ℕ) : Type 0 where
  a_block : k ≡ 2 → 6 ≤ length ds → (Block (block_of ds), at + 1 + 6) ≡ x → View at k ds x
  a_word : k ≡ 3 → 2 ≤ length ds → (link_of ds, at + 1 + 2) ≡ x → View at k ds x
  a_round : k ≡ 5 → (Round, at + 1 + 0) ≡ x → View at k ds x
  a_show : k ≡ 6 → (Show, at + 1 + 0) ≡ x → View at k ds x

record Sized (size : ℕ) (t : Thing) (at : ℕ) (ds : List ℕ) (x : Thing × ℕ) : Type 0 where
  long : size ≤ length ds
  is : (t, at + 1 + size) ≡ x

sized_ok : (size : ℕ) (t : Thing) (at : ℕ) (ds : List ℕ) (x : Thing × ℕ) → sized size t at ds ≡ Ok x
    → Sized size t at ds x
sized_ok size t at ds x =
    cond_both (ltb (length ds) size) _ _ (λ (r : Result (Thing × ℕ) Refusal). r ≡ Ok x → Sized size t at ds x)
    (λ _ q. wrong _ _ x q)
    (λ g q. let e : (t, at + 1 + size) ≡ x = cc in record { long = ltb-false _ _ g; is = e })

view : (at k : ℕ) (ds : List ℕ) (x : Thing × ℕ) → thing_read at (k ∷ ds) ≡ Ok x → View at k ds x
view at k ds x =
    cond_both (eqb k 2) _ _ (λ (r : Result (Thing × ℕ) Refusal). r ≡ Ok x → View at k ds x)
    (λ e q. let s = sized_ok 6 (Block (block_of ds)) at ds x q in a_block (eqb-true k 2 e) s.long s.is)
    (λ _.
    cond_both (eqb k 3) _ _ (λ (r : Result (Thing × ℕ) Refusal). r ≡ Ok x → View at k ds x)
    (λ e q. let s = sized_ok 2 (link_of ds) at ds x q in a_word (eqb-true k 3 e) s.long s.is)
    (λ _.
    cond_both (eqb k 5) _ _ (λ (r : Result (Thing × ℕ) Refusal). r ≡ Ok x → View at k ds x)
    (λ e q. let s = sized_ok 0 Round at ds x q in a_round (eqb-true k 5 e) s.is)
    (λ _.
    cond_both (eqb k 6) _ _ (λ (r : Result (Thing × ℕ) Refusal). r ≡ Ok x → View at k ds x)
    (λ e q. let s = sized_ok 0 Show at ds x q in a_show (eqb-true k 6 e) s.is)
    (λ _ q. wrong _ _ x q))))

word_high : (h l : ℕ) → l < 256 → word h l / 256 ≡ h
word_high h l b = omega arith

word_low : (h l : ℕ) → l < 256 → word h l % 256 ≡ l
word_low h l b = omega arith

word_back : (n : ℕ) → word (n / 256) (n % 256) ≡ n
word_back n = omega arith

six : (ds : List ℕ) → 6 ≤ length ds
    → ds ≡ get_or ds 0 0 ∷ get_or ds 1 0 ∷ get_or ds 2 0 ∷ get_or ds 3 0 ∷ get_or ds 4 0 ∷ get_or ds 5 0 ∷ drop 6 ds
six [] h = absurd (omega arith)
six (a ∷ []) h = absurd (omega arith)
six (a ∷ b ∷ []) h = absurd (omega arith)
six (a ∷ b ∷ c ∷ []) h = absurd (omega arith)
six (a ∷ b ∷ c ∷ d ∷ []) h = absurd (omega arith)
six (a ∷ b ∷ c ∷ d ∷ e ∷ []) h = absurd (omega arith)
six (a ∷ b ∷ c ∷ d ∷ e ∷ f ∷ ds) h = refl

two : (ds : List ℕ) → 2 ≤ length ds → ds ≡ get_or ds 0 0 ∷ get_or ds 1 0 ∷ drop 2 ds
two [] h = absurd (omega arith)
two (a ∷ []) h = absurd (omega arith)
two (a ∷ b ∷ ds) h = refl

abbrev Written : ℕ → List ℕ → Thing × ℕ → Type 0
Written at bs x =
    (encode_thing x.0 ++ drop (length (encode_thing x.0)) bs ≡ bs) × (at + length (encode_thing x.0) ≡ x.1)

block_bytes : (ds : List ℕ) → Bytes ds → 6 ≤ length ds
    → encode_thing (Block (block_of ds)) ++ drop 6 ds ≡ 2 ∷ ds
block_bytes ds small h =
    let n : ℕ = name4 (get_or ds 2 0) (get_or ds 3 0) (get_or ds 4 0) (get_or ds 5 0) in
    let l3 : get_or ds 3 0 < 256 = each_at (λ (x : ℕ). x < 256) ds 3 0 small (omega arith) in
    let l4 : get_or ds 4 0 < 256 = each_at (λ (x : ℕ). x < 256) ds 4 0 small (omega arith) in
    let l5 : get_or ds 5 0 < 256 = each_at (λ (x : ℕ). x < 256) ds 5 0 small (omega arith) in
    let q1 : n / 256 ≡ word (word (get_or ds 2 0) (get_or ds 3 0)) (get_or ds 4 0) =
    word_high (word (word (get_or ds 2 0) (get_or ds 3 0)) (get_or ds 4 0)) (get_or ds 5 0) l5 in
    let q2 : n / 256 / 256 ≡ word (get_or ds 2 0) (get_or ds 3 0) =
    ap (λ (m : ℕ). m / 256) q1 ∙ word_high (word (get_or ds 2 0) (get_or ds 3 0)) (get_or ds 4 0) l4 in
    let e2 : n / 256 / 256 / 256 ≡ get_or ds 2 0 =
    ap (λ (m : ℕ). m / 256) q2 ∙ word_high (get_or ds 2 0) (get_or ds 3 0) l3 in
    let e3 : n / 256 / 256 % 256 ≡ get_or ds 3 0 =
    ap (λ (m : ℕ). m % 256) q2 ∙ word_low (get_or ds 2 0) (get_or ds 3 0) l3 in
    let e4 : n / 256 % 256 ≡ get_or ds 4 0 =
    ap (λ (m : ℕ). m % 256) q1 ∙ word_low (word (get_or ds 2 0) (get_or ds 3 0)) (get_or ds 4 0) l4 in
    let e5 : n % 256 ≡ get_or ds 5 0 =
    word_low (word (word (get_or ds 2 0) (get_or ds 3 0)) (get_or ds 4 0)) (get_or ds 5 0) l5 in
    let all : ds ≡ get_or ds 0 0 ∷ get_or ds 1 0 ∷ get_or ds 2 0 ∷ get_or ds 3 0 ∷ get_or ds 4 0 ∷ get_or ds 5 0 ∷ drop 6 ds =
    six ds h in
    cc

word_bytes : (ds : List ℕ) → Bytes ds → 2 ≤ length ds → encode_thing (link_of ds) ++ drop 2 ds ≡ 3 ∷ ds
word_bytes ds small h =
    let l1 : get_or ds 1 0 < 256 = each_at (λ (x : ℕ). x < 256) ds 1 0 small (omega arith) in
    let r0 : word (get_or ds 0 0) (get_or ds 1 0) / 256 ≡ get_or ds 0 0 = word_high (get_or ds 0 0) (get_or ds 1 0) l1 in
    let e1 : word (get_or ds 0 0) (get_or ds 1 0) % 256 ≡ get_or ds 1 0 = word_low (get_or ds 0 0) (get_or ds 1 0) l1 in
    let all : ds ≡ get_or ds 0 0 ∷ get_or ds 1 0 ∷ drop 2 ds = two ds h in
    cc

written : (at k : ℕ) (ds : List ℕ) (x : Thing × ℕ) → Bytes ds → View at k ds x → Written at (k ∷ ds) x
written at k ds x small (a_block e h q) =
    subst (Written at (k ∷ ds)) q
    (block_bytes ds small h ∙ ap (λ (m : ℕ). m ∷ ds) (sym e), omega arith)
written at k ds x small (a_word e h q) =
    subst (Written at (k ∷ ds)) q (word_bytes ds small h ∙ ap (λ (m : ℕ). m ∷ ds) (sym e), omega arith)
written at k ds x small (a_round e q) =
    subst (Written at (k ∷ ds)) q (ap (λ (m : ℕ). m ∷ ds) (sym e), omega arith)
written at k ds x small (a_show e q) =
    subst (Written at (k ∷ ds)) q (ap (λ (m : ℕ). m ∷ ds) (sym e), omega arith)

pub thing_encoded : ThingEncoded
thing_encoded at [] t to small q = wrong _ _ (t, to) q
thing_encoded at (k ∷ ds) t to small q = written at k ds (t, to) small.1 (view at k ds (t, to) q)

pub thing_back : ThingBack
thing_back at (Block b) rest =
    let n : ℕ = b.name in
    let ds : List ℕ =
    b.door ∷ b.place ∷ n / 256 / 256 / 256 ∷ n / 256 / 256 % 256 ∷ n / 256 % 256 ∷ n % 256 ∷ rest in
    let e : name4 (n / 256 / 256 / 256) (n / 256 / 256 % 256) (n / 256 % 256) (n % 256) ≡ n =
    ap (λ (m : ℕ). word (word m (n / 256 % 256)) (n % 256)) (word_back (n / 256 / 256))
    ∙ (ap (λ (m : ℕ). word m (n % 256)) (word_back (n / 256)) ∙ word_back n) in
    let o : at + 1 + 6 ≡ at + 7 = omega arith in
    sized_fits 6 (Block (block_of ds)) at ds (omega arith)
    ∙ (ap (λ (m : ℕ). Ok (Block (record { door = b.door; place = b.place; name = m }), at + 1 + 6)) e
    ∙ ap (λ (m : ℕ). Ok (Block b, m)) o)
thing_back at (Word l) rest =
    let ds : List ℕ = l / 256 ∷ l % 256 ∷ rest in
    let o : at + 1 + 2 ≡ at + 3 = omega arith in
    sized_fits 2 (link_of ds) at ds (omega arith)
    ∙ (ap (λ (m : ℕ). Ok (Word m, at + 1 + 2)) (word_back l) ∙ ap (λ (m : ℕ). Ok (Word l, m)) o)
thing_back at Round rest =
    let o : at + 1 + 0 ≡ at + 1 = omega arith in
    sized_fits 0 Round at rest (omega arith) ∙ ap (λ (m : ℕ). Ok (Round, m)) o
thing_back at Show rest =
    let o : at + 1 + 0 ≡ at + 1 = omega arith in
    sized_fits 0 Show at rest (omega arith) ∙ ap (λ (m : ℕ). Ok (Show, m)) o

abbrev to_of : Thing × ℕ → ℕ
to_of x = x.1

cut_view : (at k : ℕ) (ds : List ℕ) (x : Thing × ℕ) (j : ℕ) → View at k ds x → at + suc j < x.1
    → thing_read at (k ∷ take j ds) ≡ Err (refusal Cut at)
cut_view at k ds x j (a_block e h q) l =
    let o : at + 1 + 6 ≡ x.1 = ap to_of q in
    ap (λ (m : ℕ). thing_read at (m ∷ take j ds)) e
    ∙ sized_cut 6 (Block (block_of (take j ds))) at (take j ds) (omega (arith, length-take j ds))
cut_view at k ds x j (a_word e h q) l =
    let o : at + 1 + 2 ≡ x.1 = ap to_of q in
    ap (λ (m : ℕ). thing_read at (m ∷ take j ds)) e
    ∙ sized_cut 2 (link_of (take j ds)) at (take j ds) (omega (arith, length-take j ds))
cut_view at k ds x j (a_round e q) l = let o : at + 1 + 0 ≡ x.1 = ap to_of q in absurd (omega arith)
cut_view at k ds x j (a_show e q) l = let o : at + 1 + 0 ≡ x.1 = ap to_of q in absurd (omega arith)

pub thing_cut : ThingCut
thing_cut at [] t to k q l = wrong _ _ (t, to) q
thing_cut at (b ∷ ds) t to zero q l = refl
thing_cut at (b ∷ ds) t to (suc j) q l = cut_view at b ds (t, to) j (view at b ds (t, to) q) l
