-- What the loop over the pairs keeps true: what was read is the front of what there is to read. Assumes nothing.
use Rattle.std.proofs.Common.{◌≡◌, length, vec_items}
use Rattle.wire.proofs.Rows.{Reading}
use Rattle.wire.proofs.file.things.Given as goal

abbrev pub invariant-loop-high : goal.invariant-loop-high
invariant-loop-high g l =
    (length (vec_items l.things) ≡ length l.yielded)
    × Reading (g.H.FileHead.made l.head) g.H.FileHead.SIZE (g.H.FileHead.number l.head) (length l.yielded) l.bytes (vec_items l.things)
