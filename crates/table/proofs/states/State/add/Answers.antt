use Rattle.std.proofs.Common.{◌≡◌, ℕ, ◌++◌, not, ◌&&◌, Bool, List, cond, get_or, length, take, drop, vec_items, sym, ap, ◌∙◌, arith}
use Rattle.std.proofs.lemmas.List.{take_at}
use Rattle.std.proofs.lemmas.Bool.{cond-false}
use Rattle.net.specs.declared.Entry.{Entry}
use Rattle.net.specs.declared.Entry.TheVariants.{Here, Link}
use Rattle.std.proofs.lemmas.Nat.{pow_pos}
use Rattle.graph.specs.Sets.{has}
use Rattle.graph.proofs.Bits.{has_past}
use Rattle.table.proofs.Looking.{fresh_is}
use Rattle.table.proofs.states.State.add.Goals as goal

pub returns-after-loop-p-clause-row : goal.returns-after-loop-p-clause-row
returns-after-loop-p-clause-row c = λ p l.
    let old = vec_items c.args.self.now.row in
    let e : take c.args.self.now.row.len (c.loop-p.entry-items ++ drop (length c.loop-p.entry-items) old) ≡ c.loop-p.entry-items =
    take_at c.loop-p.entry-items (drop (length c.loop-p.entry-items) old) c.args.self.now.row.len (c.loop-p.auto.entry-items ∙ c.deref_mut-entry-items.ensures.len) in
    let z = ap length c.deref_mut-entry-items.ensures.value in
    ap (λ (es : List Entry). get_or es p Here) e ∙ c.loop-p.invariant.0 p (omega arith)
    ∙ ap (λ (b : Bool). cond b (Link c.args.k) (get_or old p Here)) (fresh_is c.args.self.now.reached c.args.more p)

pub returns-else-fresh-ne0-clause-row : goal.returns-else-fresh-ne0-clause-row
returns-else-fresh-ne0-clause-row c = λ p l.
    sym (cond-false (has c.args.more p && not (has c.args.self.now.reached p)) (Link c.args.k) (get_or (vec_items c.args.self.now.row) p Here)
    (sym (fresh_is c.args.self.now.reached c.args.more p) ∙ ap (λ (v : ℕ). has v p) c.if-fresh-ne0.false ∙ has_past 0 p (pow_pos p)))
