use Rattle.std.proofs.Common.{◌≡◌, ℕ, ◌+◌, ◌<◌, ltb, [], Some, None, length, get_or, vec_items, deque_items, sym, refl, ap, ◌∙◌, arith}
use Rattle.std.proofs.lemmas.Bool.{cond-true, lt-ltb}
use Rattle.std.proofs.lemmas.List.{length-map}
use Rattle.round.specs.Fabric.{net_at, state_of, waiting}
use Rattle.round.proofs.Places.{mapped_read}
use Rattle.round.proofs.States.{door_read}
use Rattle.round.proofs.running.Running.waiting_at.Goals as goal

pub returns : goal.returns
returns c =
    let f = c.args.self.now.fabric in
    let q = c.in_ok-waiting.waiting.now in
    let d = c.args.door in
    let i = c.in_ok-waiting.ensures.lookup in
    let k = f.links.ok.0 in
    let m = f.doors.ok.0 in
    let h : d < length (vec_items f.doors) = rw c.deref.ensures.value at i.3.0 in
    let a : q ≡ get_or (vec_items f.doors) d q = rw c.deref.ensures.value at i.1 in
    let r = door_read (net_at f) (vec_items f.links) (waiting f) (vec_items f.came) f.rounds (f.plan.layout.links + d) d (omega arith) refl (simp length-map h) in
    ap (λ (n : ℕ). Some n) (c.len.ensures ∙ q.ok.0 ∙ sym (ap length (r ∙ mapped_read deque_items (vec_items f.doors) d q [] h a))) ∙
    sym (cond-true (ltb d f.plan.layout.doors) (Some (length ((state_of f).queue (f.plan.layout.links + d)))) None (lt-ltb d f.plan.layout.doors (omega arith)))
