use Rattle.std.proofs.Common.{ℕ, Option, unwrap_or, ◌+◌, ◌-◌, ◌*◌, ap, ◌∙◌, arith}
use Rattle.tree.specs.Planted.{graph_in, up_in}
use Rattle.table.specs.Kept.{channels}
use Rattle.table.proofs.Parts.{row_in}
use Rattle.table.proofs.Filling.{met_is, row_filled, rows_more}
use Rattle.table.proofs.sweep.Onward.fill_table.Goals as goal

pub loop-c-preserved : goal.loop-c-preserved
loop-c-preserved c =
    let t = c.args.self.now.swept.tree.now in
    let n = t.cabling.switches in
    let l = c.links.ensures in
    let size = c.requires.size in
    let long = c.loop-c.auto.table in
    let in_table = row_in n c.loop-c.c (channels (graph_in t)) (omega arith) in
    rows_more (graph_in t) (up_in t) c.loop-c.c c.loop-c.table _ c.loop-c.invariant
    (row_filled (graph_in t) (up_in t) c.loop-c.table c.fill_row.new.row c.row.result.now c.loop-c.c c.unwrap_or-met.result ((c.loop-c.c * n + n) - c.loop-c.c * n) (omega arith) (omega arith) c.fill_row.auto.row c.fill_row.ensures
    c.row.ensures.cells
    (met_is t c.args.met.now c.loop-c.c c.unwrap_or-met.result c.requires.met (omega arith)
    (c.unwrap_or-met.ensures ∙ ap (λ (o : Option ℕ). unwrap_or o 18446744073709551615) c.copied.ensures ∙ c.get.ensures.lookup.4 (omega arith) 18446744073709551615)))
