-- Road after road and door after door. Assumes nothing.
use Rattle.std.proofs.Common.{◌≡◌, ℕ, ◌+◌, ◌<◌, Bool, false, List, length, get_or, sym, ap, ◌∙◌, subst, ⊎_elim, arith}
use Rattle.std.proofs.lemmas.Nat.{pow_pos}
use Rattle.std.proofs.lemmas.Bool.{cases_eq, both_ways}
use Rattle.graph.specs.Graph.{Graph}
use Rattle.graph.specs.Sets.{has}
use Rattle.graph.proofs.Bits.{has_past}
use Rattle.table.specs.Marked.{marked, OnlyMet, Closed, Opened, Walks, AllMet}
use Rattle.table.proofs.Marking.{marks_are}

-- the roads from the first s doors are walked
pub record Doors (g : Graph) (up : ℕ → Bool) (s : ℕ) (ms : List ℕ) : Type 0 where
  pub size : length ms ≡ g.links
  pub only : OnlyMet g up ms
  pub closed : Closed g up ms
  pub opened : (t p : ℕ) → t < s → p < g.n → Opened g up ms t p

module _ (g : Graph) (up : ℕ → Bool) where
  pub walks_more : (s p : ℕ) (ms ns os : List ℕ) → Walks g up s (λ q. q < p) ms ns → Walks g up s (λ q. q ≡ p) ns os → Walks g up s (λ q. q < p + 1) ms os
  walks_more s p ms ns os a b = record {
    more = λ k q e. b.more k q (a.more k q e);
    only = λ h. b.only (a.only h);
    closed = λ h. b.closed (a.closed h);
    opened = λ q l. ⊎_elim (λ (e : q ≡ p). b.opened q e) (λ e. λ d w. b.more d q (a.opened q (omega arith) d w)) (cases_eq q p);
  }

  pub doors_none : (ms : List ℕ) → length ms ≡ g.links → ((i : ℕ) → get_or ms i 0 ≡ 0) → Doors g up 0 ms
  doors_none ms l z = record { size = l; only = λ k p l o e. absurd (both_ways (marked ms k p) (none k p) e); closed = λ k p d l o e w. absurd (both_ways (marked ms k p) (none k p) e); opened = λ s p l. absurd (omega arith) }
    where
      none : (k p : ℕ) → marked ms k p ≡ false
      none k p = ap (λ (v : ℕ). has v p) (z k) ∙ has_past 0 p (pow_pos p)

  pub doors_more : (s : ℕ) (ms ns : List ℕ) → length ns ≡ length ms → Doors g up s ms → Walks g up s (λ q. q < g.n) ms ns → Doors g up (s + 1) ns
  doors_more s ms ns z h w = record {
    size = z ∙ h.size;
    only = w.only h.only;
    closed = w.closed h.closed;
    opened = λ t p l o. ⊎_elim
        (λ (e : t ≡ s). subst (λ (i : ℕ). Opened g up ns i p) (sym e) (w.opened p o))
        (λ e. λ d v. w.more d p (h.opened t p (omega arith) o d v)) (cases_eq t s);
  }

  pub doors_all : (s : ℕ) (ms : List ℕ) → s ≡ g.n → Doors g up s ms → AllMet g up ms
  doors_all s ms e h = record { size = h.size; marks = marks_are g up ms h.only h.closed (λ t p l o. h.opened t p (omega arith) o) }
