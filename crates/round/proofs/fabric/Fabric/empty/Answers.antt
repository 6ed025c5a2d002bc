use Rattle.std.proofs.Common.{◌≡◌, ℕ, sym, ◌∙◌, List, [], map, length, get_or, replicate, vec_items, deque_items, refl, ap, arith, rules}
use Rattle.std.proofs.lemmas.Iterator.{YieldsList-from_range}
use Rattle.std.proofs.lemmas.List.{get_or-map, get_or-replicate, length-map, length-replicate}
use Rattle.net.specs.declared.Block.{Block}
use Rattle.net.specs.Layout.{net_of}
use Rattle.round.specs.Link.{queue_of, free_of, size_of, turn_of}
use Rattle.round.proofs.Starts.{new_state, made_for_each}
use Rattle.round.proofs.fabric.Fabric.empty.Goals as goal

pub invariant_of-result : goal.invariant_of-result
invariant_of-result c =
    let l = c.args.plan.layout in
    let r = c.in_ok-links.ensures.ran in
    let q = c.in_ok-doors.ensures.ran in
    let t : map turn_of (vec_items c.in_ok-links.links) ≡ replicate l.links 0 =
    made_for_each l.links turn_of 0 (YieldsList-from_range 0 l.links l.links c.map.ensures.source (omega arith)) c.map.ensures.closure (λ x y f k. search rules) r.0 _ r.1 r.2.0 in
    let s : map size_of (vec_items c.in_ok-links.links) ≡ replicate l.links l.room =
    made_for_each l.links size_of l.room (YieldsList-from_range 0 l.links l.links c.map.ensures.source (omega arith)) c.map.ensures.closure (λ x y f k. search rules) r.0 _ r.1 r.2.0 in
    let d : map deque_items (vec_items c.in_ok-doors.doors) ≡ replicate l.doors [] =
    made_for_each l.doors deque_items [] (YieldsList-from_range 0 l.doors l.doors c.map-2.ensures.source (omega arith)) c.map-2.ensures.closure (λ x y f k. search rules) q.0 _ q.1 q.2.0 in
    let a = ap length t in
    let b = ap length d in
    let m = length-map (vec_items c.in_ok-links.links) turn_of in
    let n = length-map (vec_items c.in_ok-doors.doors) deque_items in
    let i = length-replicate {A = ℕ} l.links 0 in
    let j = length-replicate {A = List Block} l.doors [] in
    let x = c.in_ok-links.links.ok.0 in
    let y = c.in_ok-doors.doors.ok.0 in
    record {
      all_links = omega arith;
      all_doors = omega arith;
      sized = λ e x h. sym (get_or-map size_of (vec_items c.in_ok-links.links) e x l.room h) ∙ ap (λ (us : List ℕ). get_or us e l.room) s ∙ get_or-replicate {A = ℕ} l.links e l.room l.room (omega arith);
      turned = λ e h. let k = ap (λ (us : List ℕ). get_or us e 0) t in let o = get_or-replicate {A = ℕ} l.links e 0 0 h in omega arith;
    }

pub returns : goal.returns
returns c =
    let l = c.args.plan.layout in
    let r = c.in_ok-links.ensures.ran in
    let q = c.in_ok-doors.ensures.ran in
    let f = c.map.ensures.closure in
    let y = YieldsList-from_range 0 l.links l.links c.map.ensures.source (omega arith) in
    let d = YieldsList-from_range 0 l.doors l.doors c.map-2.ensures.source (omega arith) in (
      refl,
      new_state (net_of l) (vec_items c.in_ok-links.links) (map deque_items (vec_items c.in_ok-doors.doors)) (vec_items c.new.result)
          (made_for_each l.links queue_of [] y f (λ x y f k. search rules) r.0 _ r.1 r.2.0)
          (made_for_each l.links free_of l.room y f (λ x y f k. search rules) r.0 _ r.1 r.2.0)
          (made_for_each l.links turn_of 0 y f (λ x y f k. search rules) r.0 _ r.1 r.2.0)
          (made_for_each l.doors deque_items [] d c.map-2.ensures.closure (λ x y f k. search rules) q.0 _ q.1 q.2.0) c.new.ensures.items,
    )
