-- Rows filled with what is met. Assumes nothing.
use Rattle.std.proofs.Common.{◌≡◌, ℕ, ◌+◌, ◌-◌, ◌*◌, ◌<◌, ◌≤◌, Bool, cond, List, length, get_or, take, drop, sym, refl, ap, ◌∙◌, subst, ⊎_elim, arith}
use borrow.Rule.Slice.PartMut.{put_mid}
use Rattle.std.proofs.lemmas.List.{get_or_past, get_or_default, length-take-le, length-drop}
use Rattle.std.proofs.lemmas.Bool.{cases_lt, cases_eq}
use Rattle.net.specs.declared.Entry.{Entry}
use Rattle.net.specs.declared.Entry.TheVariants.{Here}
use Rattle.graph.specs.Graph.{Graph}
use Rattle.graph.specs.Sets.{has}
use Rattle.graph.proofs.Bits.{each_in}
use Rattle.tree.specs.Planted.{graph_in, up_in}
use Rattle.tree.specs.declared.planted.Tree.{Tree}
use Rattle.table.specs.Kept.{whole, met, kept}
use Rattle.table.specs.Marked.{AllMet}
use Rattle.table.proofs.Parts.{put_in, put_other}
use Rattle.table.proofs.Follow.{comes_met, same}
use Rattle.table.proofs.Trees.{near, few}

-- the row of channel c is the definition's, and the other rows are as they were
pub record RowOf (g : Graph) (up : ℕ → Bool) (table : List Entry) (c : ℕ) (table' : List Entry) : Type 0 where
  pub row : (p : ℕ) → p < g.n → get_or table' (c * g.n + p) Here ≡ kept g up c p
  pub rest : (i p : ℕ) → (i ≡ c → ⊥) → p < g.n → get_or table' (i * g.n + p) Here ≡ get_or table (i * g.n + p) Here

-- the set of a channel has the places for which it is met
pub met_is : (t : Tree) (ms : List ℕ) (c w : ℕ) → AllMet (graph_in t) (up_in t) ms → c < (graph_in t).links + (graph_in t).n → w ≡ get_or ms c 18446744073709551615 →
    (p : ℕ) → p < (graph_in t).n → has w p ≡ met (graph_in t) (up_in t) c p
met_is t ms c w h l q p o = ⊎_elim link door (cases_lt c (length ms))
  where
    link : c < length ms → has w p ≡ met (graph_in t) (up_in t) c p
    link b = ap (λ (v : ℕ). has v p) (q ∙ get_or_default ms c 18446744073709551615 0 b) ∙ h.marks c p (let z = h.size in omega arith) o

    door : length ms ≤ c → has w p ≡ met (graph_in t) (up_in t) c p
    door b =
        let f = few t in
        let z = h.size in
        let e : c ≡ (graph_in t).links + (c - (graph_in t).links) = omega arith in
        ap (λ (v : ℕ). has v p) (q ∙ get_or_past ms c 18446744073709551615 b) ∙ each_in 64 18446744073709551615 refl p (omega arith)
        ∙ sym (ap (λ (i : ℕ). met (graph_in t) (up_in t) i p) e
        ∙ comes_met (graph_in t) (up_in t) p ((graph_in t).links + (c - (graph_in t).links)) (c - (graph_in t).links) (omega arith) (near t (c - (graph_in t).links) p (omega arith) o) same)

-- a row filled, and the others as they were
pub row_filled : (g : Graph) (up : ℕ → Bool) (table row onward : List Entry) (c w k : ℕ) → k ≡ g.n → c * g.n + g.n ≤ length table → length row ≡ length (take k (drop (c * g.n) table)) →
    ((p : ℕ) → p < length (take k (drop (c * g.n) table)) → get_or row p Here ≡ cond (has w p) (get_or onward p Here) Here) →
    ((p : ℕ) → p < g.n → get_or onward p Here ≡ whole g up c p) → ((p : ℕ) → p < g.n → has w p ≡ met g up c p) → RowOf g up table c (put_mid (c * g.n) k table row)
row_filled g up table row onward c w k q l z h a b = subst (λ (j : ℕ). RowOf g up table c (put_mid (c * g.n) j table row)) (sym q) (record {
  row = λ p o. put_in (c * g.n) g.n table row Here p l long o ∙ h p (omega (arith, part)) ∙ ap (λ (e : Entry). cond (has w p) e Here) (a p o) ∙ ap (λ (v : Bool). cond v (whole g up c p) Here) (b p o);
  rest = λ i p ne o. put_other g.n c table row Here i p l long ne o;
})
  where
    part : length (take k (drop (c * g.n) table)) ≡ k
    part = length-take-le k (drop (c * g.n) table) (let d = length-drop (c * g.n) table in omega arith)

    long : length row ≡ g.n
    long = z ∙ part ∙ q

pub rows_more : (g : Graph) (up : ℕ → Bool) (c : ℕ) (table table' : List Entry) → ((i p : ℕ) → i < c → p < g.n → get_or table (i * g.n + p) Here ≡ kept g up i p) → RowOf g up table c table' →
    (i p : ℕ) → i < c + 1 → p < g.n → get_or table' (i * g.n + p) Here ≡ kept g up i p
rows_more g up c table table' h r i p l o = ⊎_elim
    (λ (e : i ≡ c). subst (λ (k : ℕ). get_or table' (k * g.n + p) Here ≡ kept g up k p) (sym e) (r.row p o))
    (λ e. r.rest i p e o ∙ h i p (omega arith) o) (cases_eq i c)
