-- One link more and one layer more while legal roads are looked for. Assumes nothing.
use Rattle.std.proofs.Common.{◌≡◌, ℕ, suc, ◌+◌, ◌-◌, ◌<◌, Bool, true, false, cond, not, ◌&&◌, ◌||◌, ltb, List, sym, refl, ap, ◌∙◌, ⊎_elim, arith}
use lib.Bits.{bit_or}
use Rattle.std.proofs.lemmas.Bool.{lt-ltb, le-ltb, cases_Bool, cond-true, cond-false, and_from, and_left, and_right, or_parts, or_from, or_left, not_from_true, not_from_false}
use Rattle.net.specs.declared.Entry.TheVariants.{Here, Link}
use Rattle.roads.specs.Numbers.{some}
use Rattle.roads.specs.Roads.{within}
use Rattle.roads.proofs.Below.{some_none}
use Rattle.roads.proofs.Roads.{goes, first_found}
use Rattle.graph.specs.Graph.{Graph}
use Rattle.graph.specs.Sets.{has}
use Rattle.graph.proofs.Bits.{has_or}
use Rattle.graph.proofs.Adding.{some_more, or_nothing}
use Rattle.tree.specs.Legal.{legal, stands}
use Rattle.table.specs.declared.states.State.{State}
use Rattle.table.specs.Kept.{most, onward}
use Rattle.table.specs.Cells.{state_of, index_of, reached_at, before_at, cell_at, reached_by, Cell, Held, Relaxed}
use Rattle.table.proofs.Follow.{away_at}

pub high_state : (n s : ℕ) → s < n → state_of n s ≡ (true, s)
high_state n s l = cond-true (ltb s n) (true, s) (false, s - n) (lt-ltb s n l)

pub low_state : (n s : ℕ) → state_of n (n + s) ≡ (false, s)
low_state n s = let q : (n + s) - n ≡ s = omega arith in cond-false (ltb (n + s) n) (true, n + s) (false, (n + s) - n) (le-ltb (n + s) n (omega arith)) ∙ ap (λ (v : ℕ). (false, v)) q

pub index_state : (n : ℕ) (up : Bool) (s : ℕ) → s < n → state_of n (index_of n up s) ≡ (up, s)
index_state n true s l = high_state n s l
index_state n false s l = low_state n s

-- a, then what stood before, then what is new
or_turn : (a b c : Bool) → ((a || b) || c) ≡ (a || (c || b))
or_turn true b c = refl
or_turn false true true = refl
or_turn false true false = refl
or_turn false false true = refl
or_turn false false false = refl

module _ (g : Graph) (up : ℕ → Bool) (j k : ℕ) where
  -- by one link more
  reached_more : (p : ℕ) (x : Bool × ℕ) → reached_by g up p j (k + 1) x ≡ (reached_by g up p j k x || ((legal g up).may x k && within (legal g up) (stands p) j (up k, g.to k)))
  reached_more p x =
      ap (λ (b : Bool). within (legal g up) (stands p) j x || b) (some_more (goes (legal g up) (stands p) j x) k)
      ∙ sym (or_turn (within (legal g up) (stands p) j x) (some (goes (legal g up) (stands p) j x) k) ((legal g up).may x k && within (legal g up) (stands p) j (up k, g.to k)))

  -- a link that may not be taken changes nothing
  pub idle : (ss : List State) (i : ℕ) → (legal g up).may (state_of g.n i) k ≡ false → Cell g up j k ss i → Cell g up j (k + 1) ss i
  idle ss i e h = record {
    reached = λ p l. h.reached p l ∙ or_nothing (reached_by g up p j k (state_of g.n i))
        ∙ ap (λ (b : Bool). reached_by g up p j k (state_of g.n i) || b) (sym (and_left ((legal g up).may (state_of g.n i) k) (within (legal g up) (stands p) j (up k, g.to k)) e))
        ∙ sym (reached_more p (state_of g.n i));
    entry = h.entry;
  }

  module _ (ss ss' : List State) (x y : ℕ) (r : Relaxed g.n ss x y k ss') where
    pub untouched : (m i : ℕ) → (i ≡ x → ⊥) → Cell g up j m ss i → Cell g up j m ss' i
    untouched m i ne h =
        let s = r.other i ne in
        record {
          reached = λ p l. ap (λ (w : ℕ). has w p) s ∙ h.reached p l;
          entry = λ p l. r.rest i p ne ∙ h.entry p l ∙ ap (λ (w : ℕ). cond (has w p) (onward g up p (state_of g.n i)) Here) (sym s);
        }

    -- a link that may be taken is looked at
    pub looked : suc j < most g → k < g.links → y < g.n + g.n → Held g up j ss → state_of g.n y ≡ (up k, g.to k) →
        (legal g up).may (state_of g.n x) k ≡ true → Cell g up j k ss x → Cell g up j (k + 1) ss' x
    looked small lk ly held lands may h = record { reached = reached'; entry = entry' }
      where
        s : reached_at ss' x ≡ bit_or (reached_at ss x) (before_at ss y)
        s = r.added

        both : (p : ℕ) → has (reached_at ss' x) p ≡ (has (reached_at ss x) p || has (before_at ss y) p)
        both p = ap (λ (w : ℕ). has w p) s ∙ has_or (reached_at ss x) (before_at ss y) p

        more : (p : ℕ) → p < g.n → has (before_at ss y) p ≡ within (legal g up) (stands p) j (up k, g.to k)
        more p l = held y p ly l ∙ ap (within (legal g up) (stands p) j) lands

        goes_k : (p : ℕ) → p < g.n → has (before_at ss y) p ≡ ((legal g up).may (state_of g.n x) k && within (legal g up) (stands p) j (up k, g.to k))
        goes_k p l = more p l ∙ ap (λ (b : Bool). b && within (legal g up) (stands p) j (up k, g.to k)) (sym may)

        reached' : (p : ℕ) → p < g.n → has (reached_at ss' x) p ≡ reached_by g up p j (k + 1) (state_of g.n x)
        reached' p l =
            both p ∙ ap (λ (b : Bool). b || has (before_at ss y) p) (h.reached p l)
            ∙ ap (λ (b : Bool). reached_by g up p j k (state_of g.n x) || b) (goes_k p l) ∙ sym (reached_more p (state_of g.n x))

        old_place : (p : ℕ) → p < g.n → has (reached_at ss x) p ≡ true → cell_at ss' x p ≡ cond (has (reached_at ss' x) p) (onward g up p (state_of g.n x)) Here
        old_place p l e =
            r.row p l
            ∙ cond-false (has (before_at ss y) p && not (has (reached_at ss x) p)) (Link k) (cell_at ss x p) (and_right (has (before_at ss y) p) (not (has (reached_at ss x) p)) (not_from_true (has (reached_at ss x) p) e))
            ∙ h.entry p l
            ∙ cond-true (has (reached_at ss x) p) (onward g up p (state_of g.n x)) Here e
            ∙ sym (cond-true (has (reached_at ss' x) p) (onward g up p (state_of g.n x)) Here (both p ∙ or_left (has (reached_at ss x) p) (has (before_at ss y) p) e))

        new_place : (p : ℕ) → p < g.n → has (reached_at ss x) p ≡ false → has (before_at ss y) p ≡ true → cell_at ss' x p ≡ cond (has (reached_at ss' x) p) (onward g up p (state_of g.n x)) Here
        new_place p l e o =
            let q = or_parts (within (legal g up) (stands p) j (state_of g.n x)) (some (goes (legal g up) (stands p) j (state_of g.n x)) k) (sym (h.reached p l) ∙ e) in
            let f = first_found (legal g up) (stands p) (most g) j (state_of g.n x) k small lk q.0 (some_none (goes (legal g up) (stands p) j (state_of g.n x)) k q.1) (sym (goes_k p l) ∙ o) in
            let d = f.1 in
            r.row p l
            ∙ cond-true (has (before_at ss y) p && not (has (reached_at ss x) p)) (Link k) (cell_at ss x p) (and_from (has (before_at ss y) p) (not (has (reached_at ss x) p)) o (not_from_false (has (reached_at ss x) p) e))
            ∙ ap (λ (i : ℕ). Link i) f.2
            ∙ sym (away_at g up p (state_of g.n x) f.0 (omega arith))
            ∙ sym (cond-true (has (reached_at ss' x) p) (onward g up p (state_of g.n x)) Here (both p ∙ ap (λ (b : Bool). b || has (before_at ss y) p) e ∙ o))

        no_place : (p : ℕ) → p < g.n → has (reached_at ss x) p ≡ false → has (before_at ss y) p ≡ false → cell_at ss' x p ≡ cond (has (reached_at ss' x) p) (onward g up p (state_of g.n x)) Here
        no_place p l e o =
            r.row p l
            ∙ cond-false (has (before_at ss y) p && not (has (reached_at ss x) p)) (Link k) (cell_at ss x p) (and_left (has (before_at ss y) p) (not (has (reached_at ss x) p)) o)
            ∙ h.entry p l
            ∙ cond-false (has (reached_at ss x) p) (onward g up p (state_of g.n x)) Here e
            ∙ sym (cond-false (has (reached_at ss' x) p) (onward g up p (state_of g.n x)) Here (both p ∙ or_from (has (reached_at ss x) p) (has (before_at ss y) p) e o))

        entry' : (p : ℕ) → p < g.n → cell_at ss' x p ≡ cond (has (reached_at ss' x) p) (onward g up p (state_of g.n x)) Here
        entry' p l = ⊎_elim (λ e. old_place p l e) (λ e. ⊎_elim (λ o. new_place p l e o) (λ o. no_place p l e o) (cases_Bool (has (before_at ss y) p))) (cases_Bool (has (reached_at ss x) p))
