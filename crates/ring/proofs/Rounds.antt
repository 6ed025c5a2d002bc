-- The loops that raise ranks: which entries were looked at, and that the rounds end. Assumes nothing.
use Rattle.std.proofs.Common.{◌≡◌, ℕ, ◌+◌, ◌-◌, ◌*◌, ◌<◌, ◌≤◌, Bool, true, false, ◌||◌, cond, leb, ◌⊎◌, List, length, get_or, set, sum, sym, ap, ◌∙◌, subst, inl, inr, ⊎_elim, arith}
use Rattle.std.proofs.Math.Bool.{or-false}
use Rattle.std.proofs.lemmas.Bool.{cases_eq, cases_lt}
use Rattle.net.specs.declared.Entry.{Entry}
use Rattle.net.specs.declared.Entry.TheVariants.{Here, Link}
use Rattle.net.specs.Layout.{entry_at}
use Rattle.ring.specs.Table.{Hands, InRange, IsRow, Sized}
use Rattle.ring.specs.Ranks.{LeastRanks, Lifted, AtEntry, InRow, Below, Ready}
use Rattle.ring.proofs.Rising.{bounded, least_ranks, lifted_none, lifted_one, lifted_then, sum_top}
use Rattle.ring.proofs.Outside.{hands_at, hands_from, hands_to, here_link}

pub same_link : (x : Entry) (e f : ℕ) → Link e ≡ x → x ≡ Link f → f ≡ e
same_link x e f p q = cc

pub in_row_more : (es : List Entry) (m c p d e : ℕ) → InRow es m c (p + 1) d e → InRow es m c p d e ⊎ AtEntry es m c p d e
in_row_more es m c p d e r =
    let q = r.1.0 in
    let l = r.1.1 in
    ⊎_elim
    (λ (g : q ≡ p). inr (r.0, subst (λ (i : ℕ). entry_at es m c i ≡ Link e) g r.1.2))
    (λ (g : q ≡ p → ⊥). let lt : q < p = ⊎_elim (λ (i : q < p). i) (λ (i : p ≤ q). absurd (g (omega arith))) (cases_lt q p) in inl (r.0, (q, lt, r.1.2)))
    (cases_eq q p)

pub below_more : (es : List Entry) (m c d e : ℕ) → Below es m (c + 1) d e → Below es m c d e ⊎ InRow es m c m d e
below_more es m c d e r =
    let l = r.0 in
    let h = r.1 in
    ⊎_elim
    (λ (g : d ≡ c). inr (g, (h.0, h.1, subst (λ (i : ℕ). entry_at es m i h.0 ≡ Link e) g h.2)))
    (λ (g : d ≡ c → ⊥). let lt : d < c = ⊎_elim (λ (i : d < c). i) (λ (i : c ≤ d). absurd (g (omega arith))) (cases_lt d c) in inl (lt, h))
    (cases_eq d c)

-- one entry of a row more: raised along it or not
pub raise_link : (es : List Entry) (n m c p e : ℕ) (row : List Entry) (old mid new : List ℕ) (a b t : Bool) → Sized es n m → InRange es n m → Ready es n m old → IsRow es m c row → p < length row → get_or row p Here ≡ Link e →
    length mid ≡ n → Lifted (Hands es m) (InRow es m c p) old mid a → b ≡ leb (get_or mid e 0) (get_or mid c 0) → new ≡ cond b (set mid e (get_or mid c 0 + 1)) mid → t ≡ (a || b) →
    Lifted (Hands es m) (InRow es m c (p + 1)) old new t
raise_link es n m c p e row old mid new a b t s v r w l q z k told after is =
    let size = w.size in
    let at : Link e ≡ entry_at es m c p = sym q ∙ w.entry p (omega arith) in
    let h : Hands es m c e = hands_at es m c p e (omega arith) at in
    let from = hands_from es n m c e s.table h in
    let to = hands_to es n m c e v h in
    lifted_then (Hands es m) (InRow es m c p) (AtEntry es m c p) (InRow es m c (p + 1)) old mid new a b t k
    (lifted_one (Hands es m) (AtEntry es m c p) mid new c e b k.backed h (omega arith) (omega arith) (λ d f s. (s.0, same_link (entry_at es m c p) e f at s.1)) told after)
    (in_row_more es m c p) is

-- nothing to raise where it says here
pub raise_here : (es : List Entry) (m c p : ℕ) (row : List Entry) (old mid : List ℕ) (a : Bool) → IsRow es m c row → p < length row → get_or row p Here ≡ Here → Lifted (Hands es m) (InRow es m c p) old mid a → Lifted (Hands es m) (InRow es m c (p + 1)) old mid a
raise_here es m c p row old mid a w l q k =
    let size = w.size in
    let at : entry_at es m c p ≡ Here = sym (w.entry p (omega arith)) ∙ q in
    lifted_then (Hands es m) (InRow es m c p) (AtEntry es m c p) (InRow es m c (p + 1)) old mid mid a false a k
    (lifted_none (Hands es m) (AtEntry es m c p) mid k.backed (λ d e s. here_link (entry_at es m c p) e at s.1)) (in_row_more es m c p) (sym (or-false a))

-- a rank that blocks are handed on from has room to rise
pub has_room : (es : List Entry) (n m c p e : ℕ) (row : List Entry) (old mid : List ℕ) (S : ℕ → ℕ → Type 0) (a : Bool) → Sized es n m → Ready es n m old → IsRow es m c row → p < length row → get_or row p Here ≡ Link e → Lifted (Hands es m) S old mid a → get_or mid c 0 < n
has_room es n m c p e row old mid S a s r w l q k =
    let size = w.size in
    let at : Link e ≡ entry_at es m c p = sym q ∙ w.entry p (omega arith) in
    bounded (Hands es m) n mid (λ x y g. hands_from es n m x y s.table g) r.free k.backed c e (hands_at es m c p e (omega arith) at)

pub ready_more : (es : List Entry) (n m : ℕ) (S : ℕ → ℕ → Type 0) (first old new : List ℕ) (t : Bool) → Ready es n m first → length new ≡ n → Lifted (Hands es m) S old new t → Ready es n m new
ready_more es n m S first old new t r z l = record { free = r.free; size = z; backed = l.backed }

-- a round in which something was raised brings the sum nearer to its bound
pub round_less : (es : List Entry) (n m : ℕ) (S : ℕ → ℕ → Type 0) (old new : List ℕ) (t : Bool) → Sized es n m → Ready es n m new → t ≡ true → Lifted (Hands es m) S old new t → n * n - sum new < n * n - sum old
round_less es n m S old new t z r q l =
    let b : sum new ≤ length new * n = sum_top (Hands es m) n new (λ x y h. hands_from es n m x y z.table h) r.free r.backed in
    let s : length new * n ≡ n * n = ap (λ (i : ℕ). i * n) r.size in
    let g = l.more q in
    omega arith

-- after a round in which nothing was raised they are the least ranks
pub least_after : (es : List Entry) (n m : ℕ) (old new : List ℕ) (t : Bool) → Sized es n m → t ≡ false → Lifted (Hands es m) (Below es m n) old new t → LeastRanks (Hands es m) (λ c. get_or new c 0)
least_after es n m old new t z q l =
    let f = l.still q in
    least_ranks (Hands es m) new l.backed (λ c e h. f.1 c e (hands_from es n m c e z.table h, h))
