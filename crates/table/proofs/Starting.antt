-- The states as they start: each has reached its own switch, and every cell says here. Assumes nothing.
use Rattle.std.proofs.Common.{◌≡◌, ℕ, ◌+◌, ◌-◌, ◌%◌, ◌<◌, Bool, true, false, eqb, ltb, List, [], ◌∷◌, ◌++◌, map, length, get_or, replicate, vec_items, All, sym, ap, ◌∙◌, subst, ⊎_elim, arith}
use Rattle.std.proofs.Math.Nat.{mod-eq_of_lt, mod-eq-sub-mod}
use Rattle.std.proofs.lemmas.List.{get_or_past, get_or_push, get_or_append_left, get_or-replicate, length-map, length-replicate, length-append, map-append}
use Rattle.std.proofs.lemmas.List.Elements.{All-append}
use Rattle.std.proofs.lemmas.Bool.{cases_eq, cases_lt, cond-true, cond-false, lt-ltb, le-ltb}
use Rattle.net.specs.declared.Entry.{Entry}
use Rattle.net.specs.declared.Entry.TheVariants.{Here}
use Rattle.graph.specs.Sets.{has}
use Rattle.table.specs.declared.states.State.{State}
use Rattle.table.specs.Cells.{state_of, reached_at, cell_at}

-- the first k states as they start, with rows for n places
pub record Started (n : ℕ) (ss : List State) (k : ℕ) : Type 0 where
  pub size : length ss ≡ k
  pub rows : All (λ s. length (vec_items s.row) ≡ n) ss
  pub own : (i t : ℕ) → i < k → has (reached_at ss i) t ≡ eqb (state_of n i).1 t
  pub here : (i p : ℕ) → cell_at ss i p ≡ Here

-- one value over and over, wherever it is read
pub all_same : {X : Type 0} (k i : ℕ) (d : X) → get_or (replicate k d) i d ≡ d
all_same k i d = ⊎_elim (λ (l : i < k). get_or-replicate k i d d l) (λ l. get_or_past (replicate k d) i d (let z = length-replicate k d in omega arith)) (cases_lt i k)

-- the switch of state i
own_switch : (n i : ℕ) → 0 < n → i < n + n → i % n ≡ (state_of n i).1
own_switch n i p l = ⊎_elim
    (λ (o : i < n). mod-eq_of_lt o ∙ sym (ap (λ (x : Bool × ℕ). x.1) (cond-true (ltb i n) (true, i) (false, i - n) (lt-ltb i n o))))
    (λ o. mod-eq-sub-mod o ∙ mod-eq_of_lt {n = i - n} {m = n} (omega arith) ∙ sym (ap (λ (x : Bool × ℕ). x.1) (cond-false (ltb i n) (true, i) (false, i - n) (le-ltb i n o))))
    (cases_lt i n)

pub started_more : (n i : ℕ) (ss ss' : List State) (v : State) → 0 < n → i < n + n → ss' ≡ ss ++ v ∷ [] → ((t : ℕ) → has v.reached t ≡ eqb (i % n) t) → vec_items v.row ≡ replicate n Here → Started n ss i → Started n ss' (i + 1)
started_more n i ss ss' v p l e r w h = subst (λ (xs : List State). Started n xs (i + 1)) (sym e) (record { size = size; rows = rows; own = own; here = here })
  where
    size : length (ss ++ v ∷ []) ≡ i + 1
    size = length-append ss (v ∷ []) ∙ ap (λ (m : ℕ). m + 1) h.size

    rows : All (λ s. length (vec_items s.row) ≡ n) (ss ++ v ∷ [])
    rows = All-append (λ s. length (vec_items s.row) ≡ n) ss (v ∷ []) h.rows (λ k d o. let q : k ≡ 0 = omega arith in subst (λ (m : ℕ). length (vec_items (get_or (v ∷ []) m d).row) ≡ n) (sym q) (ap length w ∙ length-replicate n Here))

    old : {X : Type 0} (f : State → X) (d : X) (m : ℕ) → m < i → get_or (map f (ss ++ v ∷ [])) m d ≡ get_or (map f ss) m d
    old f d m o = ap (λ xs. get_or xs m d) (map-append f ss (v ∷ [])) ∙ get_or_append_left (map f ss) (f v ∷ []) d m (let z = length-map ss f in let y = h.size in omega arith)

    new : {X : Type 0} (f : State → X) (d : X) → get_or (map f (ss ++ v ∷ [])) i d ≡ f v
    new f d = ap (λ xs. get_or xs i d) (map-append f ss (v ∷ [])) ∙ get_or_push (map f ss) (f v) d i (length-map ss f ∙ h.size)

    past : {X : Type 0} (f : State → X) (d : X) (m : ℕ) → i < m → get_or (map f (ss ++ v ∷ [])) m d ≡ d
    past f d m o = get_or_past (map f (ss ++ v ∷ [])) m d (let z = length-map (ss ++ v ∷ []) f in omega (arith, size))

    own : (m t : ℕ) → m < i + 1 → has (reached_at (ss ++ v ∷ []) m) t ≡ eqb (state_of n m).1 t
    own m t o = ⊎_elim
        (λ (q : m ≡ i). subst (λ (j : ℕ). has (reached_at (ss ++ v ∷ []) j) t ≡ eqb (state_of n j).1 t) (sym q)
        (ap (λ (u : ℕ). has u t) (new (λ s. s.reached) 0) ∙ r t ∙ ap (λ (u : ℕ). eqb u t) (own_switch n i p l)))
        (λ ne. ap (λ (u : ℕ). has u t) (old (λ s. s.reached) 0 m (omega arith)) ∙ h.own m t (omega arith)) (cases_eq m i)

    here : (m q : ℕ) → cell_at (ss ++ v ∷ []) m q ≡ Here
    here m q = ⊎_elim
        (λ (z : m ≡ i). subst (λ (j : ℕ). cell_at (ss ++ v ∷ []) j q ≡ Here) (sym z) (ap (λ (es : List Entry). get_or es q Here) (new (λ s. vec_items s.row) [] ∙ w) ∙ all_same n q Here))
        (λ ne. ⊎_elim
        (λ (o : m < i). ap (λ (es : List Entry). get_or es q Here) (old (λ s. vec_items s.row) [] m o) ∙ h.here m q)
        (λ o. ap (λ (es : List Entry). get_or es q Here) (past (λ s. vec_items s.row) [] m (omega arith)))
        (cases_lt m i)) (cases_eq m i)
