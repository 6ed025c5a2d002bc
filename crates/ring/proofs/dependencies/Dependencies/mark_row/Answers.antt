-- One entry more is marked. Assumes nothing.
use Rattle.std.proofs.Common.{◌≡◌, ℕ, ◌+◌, ◌*◌, length, vec_items, ap, subst, sym, ◌∙◌, arith}
use Rattle.ring.specs.declared.dependencies.Dependencies.{Dependencies}
use Rattle.ring.specs.Table.{Marked}
use Rattle.ring.proofs.Filled.{mark_link, mark_here}
use Rattle.ring.proofs.dependencies.Dependencies.mark_row.Goals as goal
use Rattle.ring.proofs.dependencies.Dependencies.mark_row.Goals.{in-Link, in_default}

pub loop-entry-preserved : goal.loop-entry-preserved
loop-entry-preserved c =
    let t = c.args.table.now in
    let g = c.loop-entry.self in
    let i = c.loop-entry.invariant in
    let row = c.row-row.ensures in
    let z : length (vec_items g.marks) ≡ g.channels * g.channels = omega arith in
    elim c.match-entry.branch [
      | in-Link w ↦ record {
        same = ap (λ (d : Dependencies). d.channels) w.self-is ∙ (w.mark.ensures.same ∙ i.same);
        marked = mark_link t.entries.now t.channels t.places c.args.c c.loop-entry.entry-index w.in-Link.e g.channels c.row-row.result.now
            (vec_items g.marks) (vec_items c.match-entry.self.marks) t.range row c.loop-entry-test.true w.in-Link.is c.requires.inside (i.same ∙ c.requires.same) z i.marked
            (ap (λ (d : Dependencies). vec_items d.marks) w.self-is ∙ w.mark.ensures.marked);
      }
      | in_default w ↦ record {
        same = ap (λ (d : Dependencies). d.channels) w.self-is ∙ i.same;
        marked = subst (λ (d : Dependencies). Marked t.entries.now t.channels t.places c.args.c (c.loop-entry.entry-index + 1) (vec_items d.marks)) (sym w.self-is)
            (mark_here t.entries.now t.channels t.places c.args.c c.loop-entry.entry-index c.row-row.result.now (vec_items g.marks)
            row c.loop-entry-test.true w.in_default.is c.requires.inside (subst (λ (k : ℕ). length (vec_items g.marks) ≡ k * k) (i.same ∙ c.requires.same) z) i.marked);
      }
    ]
