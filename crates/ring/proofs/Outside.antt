-- Outside of its rows and columns a table says here. Assumes nothing.
use Rattle.std.proofs.Common.{◌≡◌, ℕ, ◌+◌, ◌*◌, ◌<◌, ◌≤◌, true, ltb, List, length, get_or, sym, refl, subst, ⊎_elim, mul-le-mul_right, arith}
use Rattle.std.proofs.lemmas.List.{get_or_past}
use Rattle.std.proofs.lemmas.Bool.{cond-false, cond_both, le-ltb, cases_lt, ltb-true}
use Rattle.net.specs.declared.Entry.{Entry}
use Rattle.net.specs.declared.Entry.TheVariants.{Here, Link}
use Rattle.net.specs.Layout.{entry_at}
use Rattle.ring.specs.Table.{Hands, InRange, names}

pub past_row : (es : List Entry) (m c p : ℕ) → m ≤ p → entry_at es m c p ≡ Here
past_row es m c p h = cond-false (ltb p m) (get_or es (c * m + p) Here) Here (le-ltb p m h)

pub past_table : (es : List Entry) (n m c p : ℕ) → length es ≡ n * m → n ≤ c → entry_at es m c p ≡ Here
past_table es n m c p z h =
    let g : n * m ≤ c * m = mul-le-mul_right m h in
    cond_both (ltb p m) (get_or es (c * m + p) Here) Here (λ (x : Entry). x ≡ Here) (λ b. get_or_past es (c * m + p) Here (omega arith)) (λ b. refl)

pub here_link : (x : Entry) (e : ℕ) → x ≡ Here → x ≡ Link e → ⊥
here_link x e p q = let z : ◌≡◌ {A = ℕ} 0 1 = cc in omega arith

-- a channel that hands blocks on has a row, and the place a column
pub in_rows : (es : List Entry) (n m c p e : ℕ) → length es ≡ n * m → entry_at es m c p ≡ Link e → c < n
in_rows es n m c p e z q = ⊎_elim (λ (h : c < n). h) (λ (h : n ≤ c). absurd (here_link (entry_at es m c p) e (past_table es n m c p z h) q)) (cases_lt c n)

pub in_columns : (es : List Entry) (m c p e : ℕ) → entry_at es m c p ≡ Link e → p < m
in_columns es m c p e q = ⊎_elim (λ (h : p < m). h) (λ (h : m ≤ p). absurd (here_link (entry_at es m c p) e (past_row es m c p h) q)) (cases_lt p m)

-- what an entry says
pub hands_at : (es : List Entry) (m c p e : ℕ) → p < m → Link e ≡ entry_at es m c p → Hands es m c e
hands_at es m c p e h q = (p, h, sym q)

pub hands_from : (es : List Entry) (n m c e : ℕ) → length es ≡ n * m → Hands es m c e → c < n
hands_from es n m c e z h = in_rows es n m c h.0 e z h.2

named : (n e : ℕ) (x : Entry) → names n x ≡ true → x ≡ Link e → e < n
named n e x t q = ltb-true e n (subst (λ (y : Entry). names n y ≡ true) q t)

pub hands_to : (es : List Entry) (n m c e : ℕ) → InRange es n m → Hands es m c e → e < n
hands_to es n m c e r h = named n e (entry_at es m c h.0) (r c h.0) h.2
