-- One entry more, along which the rank has room to rise. Assumes nothing.
use Rattle.std.proofs.Common.{◌≡◌, ◌+◌, ℕ, Bool, List, length, sym, subst, arith}
use Rattle.ring.specs.Ranks.{InRow, Lifted}
use Rattle.ring.specs.Table.{Hands}
use Rattle.ring.proofs.Rounds.{has_room, raise_here, raise_link}
use Rattle.ring.proofs.ranks.raise_row.Goals as goal
use Rattle.ring.proofs.ranks.raise_row.Goals.{in-Link, in_default}

pub raise-raised-requires-clause-low : goal.raise-raised-requires-clause-low
raise-raised-requires-clause-low c =
    let t = c.args.table.now in
    let few = t.sized.few in
    let l = has_room t.entries.now t.channels t.places c.args.c c.loop-entry.entry-index c.in-Link.e c.row-entry-items.result.now c.args.ranks.now c.loop-entry.ranks
    (InRow t.entries.now t.places c.args.c c.loop-entry.entry-index) c.loop-entry.raised t.sized c.requires.ready c.row-entry-items.ensures c.loop-entry-test.true c.in-Link.is c.loop-entry.invariant in
    omega arith

pub loop-entry-preserved : goal.loop-entry-preserved
loop-entry-preserved c =
    let t = c.args.table.now in
    let p = c.loop-entry.entry-index in
    let row = c.row-entry-items in
    let i = c.loop-entry.invariant in
    let size = c.requires.ready.size in
    let same : length c.loop-entry.ranks ≡ t.channels = omega arith in
    let U = InRow t.entries.now t.places c.args.c (p + 1) in
    elim c.match-entry.branch [
      | in-Link w ↦ subst (λ (r : List ℕ). Lifted (Hands t.entries.now t.places) U c.args.ranks.now r c.match-entry.raised) (sym w.ranks-is)
          (raise_link t.entries.now t.channels t.places c.args.c p w.in-Link.e row.result.now c.args.ranks.now c.loop-entry.ranks w.raise-raised.new.ranks
          c.loop-entry.raised w.raise-raised.result c.match-entry.raised t.sized t.range c.requires.ready row.ensures c.loop-entry-test.true w.in-Link.is same i
          w.raise-raised.ensures.told w.raise-raised.ensures.after w.raised-is)
      | in_default w ↦ subst (λ (r : List ℕ). Lifted (Hands t.entries.now t.places) U c.args.ranks.now r c.match-entry.raised) (sym w.ranks-is)
          (subst (λ (b : Bool). Lifted (Hands t.entries.now t.places) U c.args.ranks.now c.loop-entry.ranks b) (sym w.raised-is)
          (raise_here t.entries.now t.places c.args.c p row.result.now c.args.ranks.now c.loop-entry.ranks c.loop-entry.raised row.ensures c.loop-entry-test.true w.in_default.is i))
    ]
