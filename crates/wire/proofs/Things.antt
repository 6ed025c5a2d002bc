-- The things of a script, one by one: what reading gives where a thing is whole, cut or unknown. Assumes nothing.
use Rattle.std.proofs.Common.{◌≡◌, ℕ, ◌+◌, ◌<◌, ◌≤◌, eqb, ltb, List, ◌∷◌, length, get_or, drop, Ok, Err, sym, refl, ap, ◌∙◌, arith}
use Rattle.std.proofs.lemmas.List.{drop_more, drop_all, get_or-drop, length-drop}
use Rattle.std.proofs.lemmas.Bool.{cond-true, cond-false, lt-ltb, le-ltb, ne_eqb}
use Rattle.wire.specs.declared.script.Thing.{Thing}
use Rattle.wire.specs.declared.script.Thing.TheVariants.{Block, Word, Round, Show}
use Rattle.wire.specs.declared.fault.Fault.TheVariants.{Kind, Cut}
use Rattle.wire.specs.Faults.{refusal}
use Rattle.wire.specs.Pairs.{word}
use Rattle.wire.specs.Script.{block_of, sized, thing_read}

pub here_at : (bs : List ℕ) (at k i : ℕ) → at + 1 + i ≡ k → get_or bs k 0 ≡ get_or (drop (at + 1) bs) i 0
here_at bs at k i q = ap (λ (m : ℕ). get_or bs m 0) (sym q) ∙ sym (get_or-drop (at + 1) bs i 0)

pub begins : (at k : ℕ) (bs : List ℕ) → at < length bs → get_or bs at 0 ≡ k → drop at bs ≡ k ∷ drop (at + 1) bs
begins at k bs h q = drop_more bs at 0 h ∙ ap (λ (m : ℕ). m ∷ drop (at + 1) bs) q

pub sized_fits : (size : ℕ) (t : Thing) (at : ℕ) (bs : List ℕ) → size ≤ length bs
    → sized size t at bs ≡ Ok (t, at + 1 + size)
sized_fits size t at bs h = cond-false (ltb (length bs) size) _ _ (le-ltb (length bs) size h)

pub sized_cut : (size : ℕ) (t : Thing) (at : ℕ) (bs : List ℕ) → length bs < size
    → sized size t at bs ≡ Err (refusal Cut at)
sized_cut size t at bs h = cond-true (ltb (length bs) size) _ _ (lt-ltb (length bs) size h)

pub no_thing : (at : ℕ) (bs : List ℕ) → length bs ≤ at → thing_read at (drop at bs) ≡ Err (refusal Cut at)
no_thing at bs h = ap (thing_read at) (drop_all at bs h)

pub whole_block : (at : ℕ) (bs : List ℕ) → at + 7 ≤ length bs → get_or bs at 0 ≡ 2
    → thing_read at (drop at bs) ≡ Ok (Block (block_of (drop (at + 1) bs)), at + 7)
whole_block at bs h q =
    let n : at + 1 + 6 ≡ at + 7 = omega arith in
    ap (thing_read at) (begins at 2 bs (omega arith) q)
    ∙ (sized_fits 6 (Block (block_of (drop (at + 1) bs))) at (drop (at + 1) bs) (omega (arith, length-drop (at + 1) bs))
    ∙ ap (λ (m : ℕ). Ok (Block (block_of (drop (at + 1) bs)), m)) n)

pub cut_block : (at : ℕ) (bs : List ℕ) → at < length bs → length bs < at + 7 → get_or bs at 0 ≡ 2
    → thing_read at (drop at bs) ≡ Err (refusal Cut at)
cut_block at bs h k q =
    ap (thing_read at) (begins at 2 bs h q)
    ∙ sized_cut 6 (Block (block_of (drop (at + 1) bs))) at (drop (at + 1) bs) (omega (arith, length-drop (at + 1) bs))

abbrev pub link_of : List ℕ → Thing
link_of ds = Word (word (get_or ds 0 0) (get_or ds 1 0))

pub whole_word : (at : ℕ) (bs : List ℕ) → at + 3 ≤ length bs → get_or bs at 0 ≡ 3
    → thing_read at (drop at bs) ≡ Ok (link_of (drop (at + 1) bs), at + 3)
whole_word at bs h q =
    let n : at + 1 + 2 ≡ at + 3 = omega arith in
    ap (thing_read at) (begins at 3 bs (omega arith) q)
    ∙ (sized_fits 2 (link_of (drop (at + 1) bs)) at (drop (at + 1) bs) (omega (arith, length-drop (at + 1) bs))
    ∙ ap (λ (m : ℕ). Ok (link_of (drop (at + 1) bs), m)) n)

pub cut_word : (at : ℕ) (bs : List ℕ) → at < length bs → length bs < at + 3 → get_or bs at 0 ≡ 3
    → thing_read at (drop at bs) ≡ Err (refusal Cut at)
cut_word at bs h k q =
    ap (thing_read at) (begins at 3 bs h q)
    ∙ sized_cut 2 (link_of (drop (at + 1) bs)) at (drop (at + 1) bs) (omega (arith, length-drop (at + 1) bs))

pub a_round : (at : ℕ) (bs : List ℕ) → at < length bs → get_or bs at 0 ≡ 5
    → thing_read at (drop at bs) ≡ Ok (Round, at + 1)
a_round at bs h q =
    let n : at + 1 + 0 ≡ at + 1 = omega arith in
    ap (thing_read at) (begins at 5 bs h q)
    ∙ (sized_fits 0 Round at (drop (at + 1) bs) (omega arith) ∙ ap (λ (m : ℕ). Ok (Round, m)) n)

pub a_show : (at : ℕ) (bs : List ℕ) → at < length bs → get_or bs at 0 ≡ 6
    → thing_read at (drop at bs) ≡ Ok (Show, at + 1)
a_show at bs h q =
    let n : at + 1 + 0 ≡ at + 1 = omega arith in
    ap (thing_read at) (begins at 6 bs h q)
    ∙ (sized_fits 0 Show at (drop (at + 1) bs) (omega arith) ∙ ap (λ (m : ℕ). Ok (Show, m)) n)

pub unknown : (at : ℕ) (bs : List ℕ) → at < length bs → (get_or bs at 0 ≡ 2 → ⊥) → (get_or bs at 0 ≡ 3 → ⊥)
    → (get_or bs at 0 ≡ 5 → ⊥) → (get_or bs at 0 ≡ 6 → ⊥)
    → thing_read at (drop at bs) ≡ Err (refusal (Kind (get_or bs at 0)) at)
unknown at bs h n2 n3 n5 n6 =
    let k : ℕ = get_or bs at 0 in
    ap (thing_read at) (begins at k bs h refl)
    ∙ (cond-false (eqb k 2) _ _ (ne_eqb k 2 n2)
    ∙ (cond-false (eqb k 3) _ _ (ne_eqb k 3 n3)
    ∙ (cond-false (eqb k 5) _ _ (ne_eqb k 5 n5) ∙ cond-false (eqb k 6) _ _ (ne_eqb k 6 n6))))
