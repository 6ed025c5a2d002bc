use Rattle.std.proofs.Common.{◌+◌, ◌<◌, List, [], length, vec_items, deque_items, refl, sym, ap, ◌∙◌, arith}
use Rattle.std.proofs.Math.Seq.{map-set_same}
use Rattle.std.proofs.lemmas.List.{length-map, map-set}
use Rattle.std.proofs.lemmas.Result.{err_from_is_err_and}
use Rattle.net.specs.declared.Block.{Block}
use Rattle.round.specs.Fabric.{listed, net_at, waiting}
use Rattle.round.proofs.Places.{mapped_read}
use Rattle.round.proofs.States.{door_more}
use Rattle.round.proofs.fabric.Fabric.let_in.Goals as goal

pub returns-in_err-push_back-clause-after : goal.returns-in_err-push_back-clause-after
returns-in_err-push_back-clause-after c =
    let f = c.args.self.now in
    let p = err_from_is_err_and c.from_residual.result c.from_residual.ensures.1 in
    rw p.1
    (ap (λ (w : List (List Block)). listed (vec_items f.links) w (vec_items f.came) f.rounds)
    (map-set_same deque_items (vec_items f.doors) c.args.block.door c.push_back.new.self c.index_mut.result.now
    (c.in_err-push_back.ensures.items ∙ ap deque_items c.index_mut.ensures.value)))

pub returns-clause-after : goal.returns-clause-after
returns-clause-after c =
    let f = c.args.self.now in
    let k = f.links.ok.0 in
    let d = f.doors.ok.0 in
    let x = c.index_mut.result.now in
    let j = c.args.block.door in
    let h : j < length (vec_items f.doors) = omega arith in
    ap (λ (w : List (List Block)). listed (vec_items f.links) w (vec_items f.came) f.rounds) (map-set deque_items (vec_items f.doors) j c.push_back.new.self) ∙
    door_more (net_at f) (vec_items f.links) (waiting f) (vec_items f.came) f.rounds (f.plan.layout.links + j) j (omega arith) refl (simp length-map h)
    c.args.block x.items c.push_back.new.self.items (sym (mapped_read deque_items (vec_items f.doors) j x [] h c.index_mut.ensures.value)) c.in_ok-push_back.ensures.items refl
