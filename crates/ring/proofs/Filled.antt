-- The square of who hands blocks to whom, mark by mark. Assumes nothing.
use Rattle.std.proofs.Common.{◌≡◌, ℕ, ◌+◌, ◌*◌, ◌<◌, ◌≤◌, Bool, true, false, ◌⊎◌, List, length, get_or, set, vec_items, sym, ap, ◌∙◌, subst, inl, inr, ⊎_elim, mul-le-mul_right, arith}
use Rattle.std.proofs.lemmas.Nat.{mul-add-lt}
use Rattle.std.proofs.lemmas.List.{get_or-set_same, get_or-set_other}
use Rattle.std.proofs.lemmas.Bool.{cases_eq, cases_lt, cases_order, ltb-true}
use Rattle.net.specs.declared.Entry.{Entry}
use Rattle.net.specs.declared.Entry.TheVariants.{Here, Link}
use Rattle.net.specs.Layout.{entry_at}
use Rattle.ring.specs.declared.dependencies.Dependencies.{Dependencies}
use Rattle.ring.specs.Graph.{Agrees}
use Rattle.ring.specs.Layers.{Feeds}
use Rattle.ring.specs.Table.{Hands, InRange, IsRow, Marked, names}
use Rattle.ring.proofs.Outside.{hands_from}

-- a place of the square has one row and one column
pub row_column : (n x y e c : ℕ) → y < n → c < n → x * n + y ≡ e * n + c → (x ≡ e) × (y ≡ c)
row_column n x y e c h g q = ⊎_elim same (λ o. ⊎_elim less more o) (cases_order x e)
  where
    same : x ≡ e → (x ≡ e) × (y ≡ c)
    same p = let r : x * n ≡ e * n = ap (λ (i : ℕ). i * n) p in (p, omega arith)

    less : x < e → (x ≡ e) × (y ≡ c)
    less l = let r : (x + 1) * n ≤ e * n = mul-le-mul_right n (let k : x + 1 ≤ e = omega arith in k) in absurd (omega arith)

    more : e < x → (x ≡ e) × (y ≡ c)
    more l = let r : (e + 1) * n ≤ x * n = mul-le-mul_right n (let k : e + 1 ≤ x = omega arith in k) in absurd (omega arith)

-- one mark more
module _ (es : List Entry) (n m c p : ℕ) (rows : List Bool) (z : length rows ≡ n * n) (l : c < n) (s : Marked es n m c p rows) where
  -- what was marked is marked
  kept : (e y x : ℕ) → Feeds rows n y x → e < n → Feeds (set rows (e * n + c) true) n y x
  kept e y x f h =
      let t = mul-add-lt e n c n h l in (
        f.0,
        f.1,
        ⊎_elim
            (λ (q : x * n + y ≡ e * n + c). ap (λ (i : ℕ). get_or (set rows (e * n + c) true) i false) q ∙ get_or-set_same rows (e * n + c) true false (omega arith))
            (λ (q : x * n + y ≡ e * n + c → ⊥). get_or-set_other rows (e * n + c) (x * n + y) true false q ∙ f.2)
            (cases_eq (x * n + y) (e * n + c)),
      )

  new : (e : ℕ) → e < n → Feeds (set rows (e * n + c) true) n c e
  new e h = let t = mul-add-lt e n c n h l in (l, h, get_or-set_same rows (e * n + c) true false (omega arith))

  was : (e y x : ℕ) → Feeds (set rows (e * n + c) true) n y x → ((x ≡ e) × (y ≡ c)) ⊎ Feeds rows n y x
  was e y x f = ⊎_elim
      (λ (q : x * n + y ≡ e * n + c). inl (row_column n x y e c f.0 l q))
      (λ (q : x * n + y ≡ e * n + c → ⊥). inr (f.0, f.1, sym (get_or-set_other rows (e * n + c) (x * n + y) true false q) ∙ f.2))
      (cases_eq (x * n + y) (e * n + c))

  link_same : (e x : ℕ) → Link e ≡ Link x → e ≡ x
  link_same e x q = cc

  no_link : (x : ℕ) → Here ≡ Link x → ⊥
  no_link x q = let w : ◌≡◌ {A = ℕ} 0 1 = cc in omega arith

  -- an earlier entry, or this one
  earlier : (y q : ℕ) → (y < c) ⊎ ((y ≡ c) × (q < p + 1)) → ((y < c) ⊎ ((y ≡ c) × (q < p))) ⊎ ((y ≡ c) × (q ≡ p))
  earlier y q o = ⊎_elim
      (λ (h : y < c). inl (inl h))
      (λ (h : (y ≡ c) × (q < p + 1)).
      let k = h.1 in
      ⊎_elim (λ (g : q ≡ p). inr (h.0, g)) (λ (g : q ≡ p → ⊥). let lt : q < p = ⊎_elim (λ (i : q < p). i) (λ (i : p ≤ q). absurd (g (omega arith))) (cases_lt q p) in inl (inr (h.0, lt))) (cases_eq q p))
      o

  here_more : p < m → Here ≡ entry_at es m c p → Marked es n m c (p + 1) rows
  here_more pm q =
      record {
        only = s.only;
        each = λ y r x o h g. ⊎_elim (λ a. s.each y r x a h g)
            (λ (a : (y ≡ c) × (r ≡ p)).
            let w : entry_at es m c p ≡ Link x = subst (λ (i : ℕ). entry_at es m i p ≡ Link x) a.0 (subst (λ (i : ℕ). entry_at es m y i ≡ Link x) a.1 g) in
            absurd (no_link x (q ∙ w)))
            (earlier y r o);
      }

  link_more : (e : ℕ) → p < m → Link e ≡ entry_at es m c p → e < n → Marked es n m c (p + 1) (set rows (e * n + c) true)
  link_more e pm q h =
      record {
        only = λ y x f. ⊎_elim
            (λ (a : (x ≡ e) × (y ≡ c)). subst (λ (i : ℕ). Hands es m y i) (sym a.0) (subst (λ (i : ℕ). Hands es m i e) (sym a.1) (p, pm, sym q)))
            (λ a. s.only y x a)
            (was e y x f);
        each = λ y r x o g k. ⊎_elim (λ a. kept e y x (s.each y r x a g k) h)
            (λ (a : (y ≡ c) × (r ≡ p)).
            let w : entry_at es m c p ≡ Link x = subst (λ (i : ℕ). entry_at es m i p ≡ Link x) a.0 (subst (λ (i : ℕ). entry_at es m y i ≡ Link x) a.1 k) in
            let v : e ≡ x = link_same e x (q ∙ w) in
            subst (λ (i : ℕ). Feeds (set rows (e * n + c) true) n y i) v (subst (λ (i : ℕ). Feeds (set rows (e * n + c) true) n i e) (sym a.0) (new e h)))
            (earlier y r o);
      }

-- one entry of a row more, which names a channel
pub mark_link : (es : List Entry) (n m c p e k : ℕ) (row : List Entry) (rows new : List Bool) → InRange es n m → IsRow es m c row → p < length row → get_or row p Here ≡ Link e → c < n → k ≡ n → length rows ≡ k * k → Marked es n m c p rows → new ≡ set rows (e * k + c) true → Marked es n m c (p + 1) new
mark_link es n m c p e k row rows new range r h q l same z s is =
    let size = r.size in
    let pm : p < m = omega arith in
    let at : Link e ≡ entry_at es m c p = sym q ∙ r.entry p pm in
    let t : names n (Link e) ≡ true = subst (λ (x : Entry). names n x ≡ true) (sym at) (range c p) in
    let square : length rows ≡ n * n = subst (λ (i : ℕ). length rows ≡ i * i) same z in
    let now : new ≡ set rows (e * n + c) true = subst (λ (i : ℕ). new ≡ set rows (e * i + c) true) same is in
    subst (λ (xs : List Bool). Marked es n m c (p + 1) xs) (sym now) (link_more es n m c p rows square l s e pm at (ltb-true e n t))

-- one that says here
pub mark_here : (es : List Entry) (n m c p : ℕ) (row : List Entry) (rows : List Bool) → IsRow es m c row → p < length row → get_or row p Here ≡ Here → c < n → length rows ≡ n * n → Marked es n m c p rows → Marked es n m c (p + 1) rows
mark_here es n m c p row rows r h q l z s =
    let size = r.size in
    let pm : p < m = omega arith in
    here_more es n m c p rows z l s pm (sym q ∙ r.entry p pm)

pub all_marked : (es : List Entry) (n m : ℕ) (g : Dependencies) → length es ≡ n * m → g.channels ≡ n → Marked es n m n 0 (vec_items g.marks) → Agrees es n m g
all_marked es n m g z q s =
    let t : Marked es g.channels m n 0 (vec_items g.marks) = subst (λ (i : ℕ). Marked es i m n 0 (vec_items g.marks)) (sym q) s in
    record { channels = q; only = t.only; each = λ y x h. t.each y h.0 x (inl (hands_from es n m y x z h)) h.1 h.2 }
