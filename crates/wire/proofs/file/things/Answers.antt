-- The things are read one after another, and then the file ends. Assumes nothing.
use Rattle.std.proofs.Common.{◌≡◌, ◌+◌, ◌*◌, ◌/◌, min, ◌<◌, [], ◌∷◌, length, vec_items, sym, refl, ◌∙◌, arith}
use Rattle.std.proofs.lemmas.List.{length-append}
use Rattle.std.proofs.lemmas.Slice.{pushed}
use Rattle.std.proofs.lemmas.Result.{err_from_is_err_and}
use Rattle.std.proofs.lemmas.Iterator.{YieldsList-from_slice, YieldsList-from_take}
use Rattle.std.proofs.lemmas.Iterator.Consumers.{YieldsList-turn, YieldsList-end}
use Rattle.wire.proofs.Rows.{chunks, length_taken, turn_more, turn_stops, reading_grown, reading_cut, reading_extra}
use Rattle.wire.proofs.file.things.Goals as goal

pub returns-in_err-thing_at : goal.returns-in_err-thing_at
returns-in_err-thing_at g c =
    let bs = c.args.bytes.now in
    let m = c.count-count.result in
    let i = length c.loop-high.yielded in
    let p = err_from_is_err_and c.from_residual-in_err-thing_at.result c.from_residual-in_err-thing_at.ensures.1 in
    let t = YieldsList-turn (YieldsList-from_take m (YieldsList-from_slice (chunks bs) cc) cc) c.loop-high.yielded _ c.loop-high.yielded_by _ _ c.in-Some.field-0 c.in-Some.is c.next.ensures.steps in
    let at : c.SIZE.result + 2 * c.len.result ≡ g.H.FileHead.SIZE + 2 * i =
    omega (arith, c.SIZE.ensures, c.len.ensures, c.loop-high.things.ok.0, c.loop-high.invariant.0) in
    rw (p.1, p.2)
    (turn_stops (g.H.FileHead.made c.args.head.now) g.H.FileHead.SIZE (g.H.FileHead.number c.args.head.now) m i _ bs
    c.in-Some.field-0.now (vec_items c.loop-high.things) c.thing_at.result c.count-count.ensures t.0 t.1
    c.loop-high.invariant.1 at c.thing_at.ensures _ c.in_err-thing_at.was)

pub loop-high-preserved : goal.loop-high-preserved
loop-high-preserved g c =
    let bs = c.args.bytes.now in
    let m = c.count-count.result in
    let i = length c.loop-high.yielded in
    let t = YieldsList-turn (YieldsList-from_take m (YieldsList-from_slice (chunks bs) cc) cc) c.loop-high.yielded _ c.loop-high.yielded_by _ _ c.in-Some.field-0 c.in-Some.is c.next.ensures.steps in
    let at : c.SIZE.result + 2 * c.len.result ≡ g.H.FileHead.SIZE + 2 * i =
    omega (arith, c.SIZE.ensures, c.len.ensures, c.loop-high.things.ok.0, c.loop-high.invariant.0) in
    reading_grown (g.H.FileHead.made c.args.head.now) g.H.FileHead.SIZE (g.H.FileHead.number c.args.head.now) i _ bs
    (vec_items c.loop-high.things) (vec_items c.push.new.self) c.in_ok-thing_at.field-0 c.loop-high.invariant.0
    (sym (length-append c.loop-high.yielded (c.in-Some.field-0 ∷ [])))
    (pushed (c.in_ok-thing_at.field-0 ∷ []) refl c.in_ok-push.was c.push.ensures.items)
    (turn_more (g.H.FileHead.made c.args.head.now) g.H.FileHead.SIZE (g.H.FileHead.number c.args.head.now) m i _ bs
    c.in-Some.field-0.now (vec_items c.loop-high.things) c.thing_at.result c.count-count.ensures t.0 t.1
    c.loop-high.invariant.1 at c.thing_at.ensures _ c.in_ok-thing_at.was)

pub returns-then-len-count : goal.returns-then-len-count
returns-then-len-count g c =
    let bs = c.args.bytes.now in
    let m = c.count-count.result in
    let i = length c.loop-high.yielded in
    let t = YieldsList-end (YieldsList-from_take m (YieldsList-from_slice (chunks bs) cc) cc) c.loop-high.yielded _ c.loop-high.yielded_by _ _ c.in-None.is c.next.ensures.steps in
    let l : i ≡ min m (length bs / 2) = t.1 ∙ length_taken m bs in
    let n = g.H.FileHead.number c.args.head.now in
    let held = c.loop-high.things.ok.0 in
    let at : g.H.FileHead.SIZE + 2 * i ≡ c.SIZE-then-len-count.result + 2 * c.len-end.result =
    omega (arith, c.SIZE-then-len-count.ensures, c.len-end.ensures, held, c.loop-high.invariant.0) in
    let less : i < n = omega (arith, c.if-len-count.true, c.len-2.ensures, c.count-count.ensures, held, c.loop-high.invariant.0) in
    let few : length bs < 2 * i + 2 = omega (arith, l, less, c.count-count.ensures) in
    rw (c.into.ensures, c.at.ensures, ← at)
    (reading_cut (g.H.FileHead.made c.args.head.now) g.H.FileHead.SIZE n i bs (vec_items c.loop-high.things) less few c.loop-high.invariant.1)

pub returns-then-end-bytes : goal.returns-then-end-bytes
returns-then-end-bytes g c =
    let bs = c.args.bytes.now in
    let m = c.count-count.result in
    let i = length c.loop-high.yielded in
    let t = YieldsList-end (YieldsList-from_take m (YieldsList-from_slice (chunks bs) cc) cc) c.loop-high.yielded _ c.loop-high.yielded_by _ _ c.in-None.is c.next.ensures.steps in
    let l : i ≡ min m (length bs / 2) = t.1 ∙ length_taken m bs in
    let n = g.H.FileHead.number c.args.head.now in
    let held = c.loop-high.things.ok.0 in
    let at : g.H.FileHead.SIZE + 2 * i ≡ c.SIZE-then-end-bytes.result + 2 * c.len-end.result =
    omega (arith, c.SIZE-then-end-bytes.ensures, c.len-end.ensures, held, c.loop-high.invariant.0) in
    let all : i ≡ n = omega (arith, c.if-len-count.false, c.len-2.ensures, c.count-count.ensures, l, held, c.loop-high.invariant.0) in
    let more : 2 * i < length bs = omega (arith, c.if-end-bytes.true, c.len-end.ensures, held, c.loop-high.invariant.0) in
    rw (c.into-then-end-bytes.ensures, c.at-then-end-bytes.ensures, ← at)
    (reading_extra (g.H.FileHead.made c.args.head.now) g.H.FileHead.SIZE n i bs (vec_items c.loop-high.things) all more c.loop-high.invariant.1)
