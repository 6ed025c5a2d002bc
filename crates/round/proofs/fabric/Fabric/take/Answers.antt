use Rattle.std.proofs.Common.{◌+◌, ◌-◌, ◌<◌, List, [], length, vec_items, deque_items, sym, ap, ◌∙◌, arith}
use Rattle.std.proofs.lemmas.List.{length-map, map-set}
use Rattle.net.specs.declared.Block.{Block}
use Rattle.round.specs.Fabric.{listed, net_at, waiting}
use Rattle.round.specs.Link.{size_of, turn_of}
use Rattle.round.proofs.Places.{below_set, mapped_read, same_set}
use Rattle.round.proofs.States.{link_left, door_left}
use Rattle.round.proofs.fabric.Fabric.take.Goals as goal

pub invariant_of-self : goal.invariant_of-self
invariant_of-self c =
    let f = c.args.self.now in
    let l = f.plan.layout in
    let x = c.index_mut.result.now in
    let k = f.links.ok.0 in
    let h : c.args.c < length (vec_items f.links) = omega arith in
    let r = mapped_read turn_of (vec_items f.links) c.args.c x 0 h c.index_mut.ensures.value in
    let t = f.turned c.args.c (omega arith) in
    let w = c.take.ensures.turn in
    record {
      all_links = f.all_links;
      all_doors = f.all_doors;
      sized = same_set size_of (vec_items f.links) c.args.c x c.take.new.self l.room h c.index_mut.ensures.value c.take.ensures.size f.sized;
      turned = below_set turn_of (vec_items f.links) c.args.c c.take.new.self l.links (l.links + l.doors) h f.turned (omega arith);
    }

pub returns-then-c-links-clause-after : goal.returns-then-c-links-clause-after
returns-then-c-links-clause-after c =
    let f = c.args.self.now in
    let k = f.links.ok.0 in
    link_left (vec_items f.links) (waiting f) (vec_items f.came) f.rounds c.args.c c.index_mut.result.now (omega arith) c.index_mut.ensures.value
    c.take.new.self (net_at f) c.take.result (omega arith) c.take.ensures.first c.take.ensures.left c.take.ensures.free c.take.ensures.turn

pub returns-else-c-links-clause-after : goal.returns-else-c-links-clause-after
returns-else-c-links-clause-after c =
    let f = c.args.self.now in
    let k = f.links.ok.0 in
    let d = f.doors.ok.0 in
    let x = c.index_mut-else-c-links.result.now in
    let j = c.args.c - c.len-links.result in
    let h : j < length (vec_items f.doors) = omega arith in
    ap (λ (w : List (List Block)). listed (vec_items f.links) w (vec_items f.came) f.rounds) (map-set deque_items (vec_items f.doors) j c.pop_front.new.self) ∙
    door_left (net_at f) (vec_items f.links) (waiting f) (vec_items f.came) f.rounds c.args.c j (omega arith) (omega arith) (simp length-map h)
    c.pop_front.result x.items c.pop_front.new.self.items (sym (mapped_read deque_items (vec_items f.doors) j x [] h c.index_mut-else-c-links.ensures.value)) c.pop_front.ensures.items c.pop_front.ensures.rest
