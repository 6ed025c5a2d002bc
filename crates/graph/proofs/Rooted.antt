-- The first set that is full belongs to the root; the number of layers that lack the root is the level. Assumes nothing.
use Rattle.std.proofs.Common.{◌≡◌, ℕ, suc, ◌+◌, ◌<◌, ◌≤◌, Bool, true, false, cond, leb, List, length, get_or, sym, refl, ap, ◌∙◌, subst, ⊎_elim, arith}
use Rattle.std.proofs.lemmas.Bool.{cases_lt, cases_Bool, le-leb, lt-leb, leb-true, leb-false, both_ways, cond-true, cond-false}
use Rattle.roads.specs.Numbers.{Least, every}
use Rattle.roads.specs.Roads.{within}
use Rattle.roads.proofs.Below.{least_is, every_at, every_from, every_not, greatest_at, greatest_fits}
use Rattle.roads.proofs.Roads.{shortest_le, shortest_within, shortest_is, within_more}
use Rattle.graph.specs.Sets.{has}
use Rattle.graph.specs.Graph.{Graph}
use Rattle.graph.specs.Tree.{plain, at, distance, reach, root, level}
use Rattle.graph.specs.Layers.{Reached, Levelled}

module _ (g : Graph) where
  -- a set is full at layer j just when the switch's greatest distance is at most j
  pub full_reach : (j : ℕ) (sets : List ℕ) (s : ℕ) → Reached g j sets → s < g.n → j < g.n → every (has (get_or sets s 0)) g.n ≡ leb (reach g s) j
  full_reach j sets s h l o = ⊎_elim all some₁ (cases_Bool (every (has (get_or sets s 0)) g.n))
    where
      all : every (has (get_or sets s 0)) g.n ≡ true → every (has (get_or sets s 0)) g.n ≡ leb (reach g s) j
      all e = e ∙ sym (le-leb (reach g s) j (greatest_fits (λ t. distance g s t) g.n j
          (λ t w. shortest_le (plain g) (at t) g.n j s (sym (h s t l w) ∙ every_at (has (get_or sets s 0)) g.n e t w))))

      some₁ : every (has (get_or sets s 0)) g.n ≡ false → every (has (get_or sets s 0)) g.n ≡ leb (reach g s) j
      some₁ e = e ∙ sym (lt-leb (reach g s) j (⊎_elim (λ (m : j < reach g s). m)
          (λ m. absurd (both_ways (every (has (get_or sets s 0)) g.n) e (every_from (has (get_or sets s 0)) g.n
          (λ t w. let d = greatest_at (λ t. distance g s t) g.n t w in
          h s t l w ∙ shortest_within (plain g) (at t) g.n j s (omega arith) (omega arith)))))
          (cases_lt j (reach g s))))

  pub root_is : (r j : ℕ) → r < g.n → ((t : ℕ) → t < g.n → j ≤ reach g t) → reach g r ≤ j → ((t : ℕ) → t < r → j < reach g t) → r ≡ root g
  root_is r j l h f low =
      least_is (λ s. every (λ t. leb (reach g s) (reach g t)) g.n) g.n r
      record {
        fits = omega arith;
        passes = λ _. every_from (λ t. leb (reach g r) (reach g t)) g.n (λ t w. let a = h t w in le-leb (reach g r) (reach g t) (omega arith));
        none = λ k o. let a = low k o in every_not (λ t. leb (reach g k) (reach g t)) g.n r l (lt-leb (reach g k) (reach g r) (omega arith));
      }

  -- the first full set at layer j, where none was full before
  module _ (j : ℕ) (sets : List ℕ) (h : Reached g j sets) (o : j < g.n) (late : (t : ℕ) → t < g.n → j ≤ reach g t)
      (r : ℕ) (f : Least (λ s. every (has (get_or sets s 0)) g.n) g.n r) where
    test : (s : ℕ) → s < g.n → every (has (get_or sets s 0)) g.n ≡ leb (reach g s) j
    test s l = full_reach j sets s h l o

    pub later : r ≡ g.n → (t : ℕ) → t < g.n → j < reach g t
    later e t l = leb-false (reach g t) j (sym (test t l) ∙ f.none t (omega arith))

    pub found_root : r < g.n → (r ≡ root g) × (reach g r < g.n)
    found_root l =
        let a : reach g r ≤ j = leb-true (reach g r) j (sym (test r l) ∙ f.passes (omega arith)) in
        (root_is r j l late a (λ t w. leb-false (reach g t) j (sym (test t (omega arith)) ∙ f.none t w)), omega arith)

  -- one layer more for the level of s
  pub level_more : (root₁ s j r : ℕ) → Least (λ i. within (plain g) (at root₁) i s) j r →
      Least (λ i. within (plain g) (at root₁) i s) (suc j) (r + cond (within (plain g) (at root₁) j s) 0 1)
  level_more root₁ s j r h = ⊎_elim in₁ out (cases_Bool (within (plain g) (at root₁) j s))
    where
      in₁ : within (plain g) (at root₁) j s ≡ true → Least (λ i. within (plain g) (at root₁) i s) (suc j) (r + cond (within (plain g) (at root₁) j s) 0 1)
      in₁ e =
          let c : ◌≡◌ {A = ℕ} (cond (within (plain g) (at root₁) j s) 0 1) 0 = cond-true {A = ℕ} (within (plain g) (at root₁) j s) 0 1 e in
          let q : r + cond (within (plain g) (at root₁) j s) 0 1 ≡ r = omega arith in
          let a = h.fits in
          subst (λ (v : ℕ). Least (λ i. within (plain g) (at root₁) i s) (suc j) v) (sym q)
          (record {
            fits = omega arith;
            passes = λ _. ⊎_elim (λ (l : r < j). h.passes l) (λ l. let i : j ≡ r = omega arith in subst (λ (v : ℕ). within (plain g) (at root₁) v s ≡ true) i e) (cases_lt r j);
            none = h.none;
          })

      out : within (plain g) (at root₁) j s ≡ false → Least (λ i. within (plain g) (at root₁) i s) (suc j) (r + cond (within (plain g) (at root₁) j s) 0 1)
      out e =
          let c : ◌≡◌ {A = ℕ} (cond (within (plain g) (at root₁) j s) 0 1) 1 = cond-false {A = ℕ} (within (plain g) (at root₁) j s) 0 1 e in
          let a = h.fits in
          let i : r ≡ j = ⊎_elim (λ (l : r < j). absurd (both_ways (within (plain g) (at root₁) j s) e (within_more (plain g) (at root₁) r j s (omega arith) (h.passes l)))) (λ l. omega arith) (cases_lt r j) in
          let q : r + cond (within (plain g) (at root₁) j s) 0 1 ≡ suc j = omega arith in
          subst (λ (v : ℕ). Least (λ i. within (plain g) (at root₁) i s) (suc j) v) (sym q)
          (record {
            fits = omega arith;
            passes = λ l. absurd (omega arith);
            none = λ k l. ⊎_elim (λ (m : k < r). h.none k m) (λ m. let p : j ≡ k = omega arith in subst (λ (v : ℕ). within (plain g) (at root₁) v s ≡ false) p e) (cases_lt k r);
          })

  pub level_all : (root₁ s r j : ℕ) → j ≡ g.n → Least (λ i. within (plain g) (at root₁) i s) j r → r ≡ level g root₁ s
  level_all root₁ s r j q h = shortest_is (plain g) (at root₁) g.n r s (subst (λ (v : ℕ). Least (λ i. within (plain g) (at root₁) i s) v r) q h)

-- what the loop over layers keeps: the sets are those of layer j, and none was full before
pub record Late (g : Graph) (j : ℕ) (sets : List ℕ) : Type 0 where
  pub reached : Reached g j sets
  pub late : (t : ℕ) → t < g.n → j ≤ reach g t

module _ (g : Graph) (j : ℕ) (sets : List ℕ) (h : Late g j sets) (o : j < g.n) where
  pub root_found : (r : ℕ) → r < g.n → Least (λ s. every (has (get_or sets s 0)) g.n) g.n r → (r ≡ root g) × (reach g r < g.n)
  root_found r l f = found_root g j sets h.reached o h.late r f l

  pub none_yet : Least (λ s. every (has (get_or sets s 0)) g.n) g.n g.n → (t : ℕ) → t < g.n → suc j ≤ reach g t
  none_yet f = later g j sets h.reached o h.late g.n f refl

  pub late_more : (next : List ℕ) → Least (λ s. every (has (get_or sets s 0)) g.n) g.n g.n → ((k : ℕ) → Reached g k sets → Reached g (suc k) next) → Late g (suc j) next
  late_more next f step = record { reached = step j h.reached; late = none_yet f }

-- what the loop that counts levels keeps
pub record Counted (g : Graph) (root₁ j : ℕ) (sets levels : List ℕ) : Type 0 where
  pub each_level : length levels ≡ g.n
  pub reached : Reached g j sets
  pub counted : (s : ℕ) → s < g.n → Least (λ i. within (plain g) (at root₁) i s) j (get_or levels s 0)

-- a level is one more where the root is not reached
pub counted_more : (g : Graph) (root₁ j : ℕ) (sets levels : List ℕ) → root₁ < g.n → Counted g root₁ j sets levels →
    (levels' : List ℕ) → ((s : ℕ) → s < g.n → get_or levels' s 0 ≡ get_or levels s 0 + cond (has (get_or sets s 0) root₁) 0 1) →
    (s : ℕ) → s < g.n → Least (λ i. within (plain g) (at root₁) i s) (suc j) (get_or levels' s 0)
counted_more g root₁ j sets levels b h levels' c s l =
    let p : get_or levels' s 0 ≡ get_or levels s 0 + cond (within (plain g) (at root₁) j s) 0 1 =
    c s l ∙ ap (λ (v : Bool). get_or levels s 0 + cond v 0 1) (h.reached s root₁ l b) in
    subst (λ (v : ℕ). Least (λ i. within (plain g) (at root₁) i s) (suc j) v) (sym p) (level_more g root₁ s j (get_or levels s 0) (h.counted s l))

pub counted_all : (g : Graph) (root₁ j : ℕ) (sets levels : List ℕ) → j ≡ g.n → Counted g root₁ j sets levels → Levelled g root₁ levels
counted_all g root₁ j sets levels e h = record { size = h.each_level; each = λ s l. level_all g root₁ s (get_or levels s 0) j e (h.counted s l) }
