use Rattle.std.proofs.Common.{◌≡◌, ℕ, ◌+◌, cond, ltb, vec_items, sym, refl, ap, ◌∙◌, arith}
use Rattle.std.proofs.lemmas.Bool.{ltb-true}
use Rattle.net.specs.Layout.{net_of}
use Rattle.net.specs.Net.{Net, channels}
use Rattle.net.specs.declared.plan.Plan.{Plan}
use Rattle.machine.specs.Round.{State, following}
use Rattle.round.specs.Fabric.{net_at, state_of, waiting}
use Rattle.round.specs.Link.{free_of, size_of, turn_of}
use Rattle.round.proofs.Places.{below_set, same_set}
use Rattle.round.proofs.Sending.{following_below, found, held, sent, still_free}
use Rattle.round.proofs.States.{come_in, free_read}
use Rattle.round.proofs.fabric.Fabric.serve.Goals as goal

pub take-requires : goal.take-requires
take-requires c =
    let f = c.args.self.now in
    found (net_at f) c.args.e c.in-Some.c (state_of f) (f.turned c.args.e c.requires) c.in-Some.ensures

pub unreachable-requires : goal.unreachable-requires
unreachable-requires c =
    let f = c.args.self.now in
    held (net_at f) c.args.e c.in-Some.c (state_of f) (f.turned c.args.e c.requires) c.in-Some.ensures (sym c.in_default-take.is ∙ c.take.ensures.first)

pub put-requires : goal.put-requires
put-requires c =
    let f = c.args.self.now in
    let g = c.take.new.self in
    let p = ap (λ (p : Plan). p.layout.links) c.take.ensures.plan in
    let k = f.links.ok.0 in
    let m = g.links.ok.0 in
    let a = free_read (vec_items f.links) (waiting f) (vec_items f.came) f.rounds c.args.e c.index.result.now (omega arith) c.index.ensures in
    let b = free_read (vec_items g.links) (waiting g) (vec_items g.came) g.rounds c.args.e c.index_mut.result.now (omega arith) c.index_mut.ensures.value in
    let h = ltb-true 0 (free_of c.index.result.now) (sym c.has_credit.ensures ∙ c.if-not-has_credit.false) in
    let s = still_free (net_at f) c.args.e c.in-Some.c (state_of f) c.take.result in
    let t = ap (λ (w : State). w.free c.args.e) c.take.ensures.after in
    omega arith

-- the channel from which the link looks round next
turn_next : (z : Net) (p q : Plan) (c n m t : ℕ) → t ≡ m → m ≡ cond (ltb (c + 1) n) (c + 1) 0 → n ≡ channels (net_of p.layout) → p ≡ q → z ≡ net_of q.layout → t ≡ following z c
turn_next z p q c n m t a b d e f =
    a ∙ b ∙ ap (λ (k : ℕ). cond (ltb (c + 1) k) (c + 1) 0) (d ∙ ap (λ (p : Plan). channels (net_of p.layout)) e ∙ ap channels (sym f))

pub invariant_of-self : goal.invariant_of-self
invariant_of-self c =
    let f = c.args.self.now in
    let g = c.take.new.self in
    let l = g.plan.layout in
    let m = g.links.ok.0 in
    let p = ap (λ (p : Plan). p.layout.links) c.take.ensures.plan in
    let q = ap (λ (p : Plan). p.layout.doors) c.take.ensures.plan in
    let t = turn_next (net_at f) g.plan f.plan c.in-Some.c _ _ _ c.put.ensures.turn c.following-turn.ensures c.channels.ensures c.take.ensures.plan refl in
    let w = following_below (net_at f) c.in-Some.c (found (net_at f) c.args.e c.in-Some.c (state_of f) (f.turned c.args.e c.requires) c.in-Some.ensures) in
    record {
      all_links = g.all_links;
      all_doors = g.all_doors;
      sized = same_set size_of (vec_items g.links) c.args.e c.index_mut.result.now c.put.new.self l.room (omega arith) c.index_mut.ensures.value c.put.ensures.size g.sized;
      turned = below_set turn_of (vec_items g.links) c.args.e c.put.new.self l.links (l.links + l.doors) (omega arith) g.turned (omega arith);
    }

pub returns-clause-after : goal.returns-clause-after
returns-clause-after c =
    let f = c.args.self.now in
    let g = c.take.new.self in
    let k = f.links.ok.0 in
    let m = g.links.ok.0 in
    let p = ap (λ (p : Plan). p.layout.links) c.take.ensures.plan in
    let a = free_read (vec_items f.links) (waiting f) (vec_items f.came) f.rounds c.args.e c.index.result.now (omega arith) c.index.ensures in
    let h = ltb-true 0 (free_of c.index.result.now) (sym c.has_credit.ensures ∙ c.if-not-has_credit.false) in
    sent (net_at f) c.args.e c.in-Some.c (state_of f) c.in-Some-take.block c.take.result (state_of g) _
    (omega arith) c.in-Some.ensures c.in-Some-take.is c.take.ensures.first c.take.ensures.after
    (come_in (vec_items g.links) (waiting g) (vec_items g.came) g.rounds c.args.e c.index_mut.result.now (omega arith) c.index_mut.ensures.value
    c.put.new.self (net_at f) c.in-Some.c c.in-Some-take.block c.put.ensures.come c.put.ensures.free
    (turn_next (net_at f) g.plan f.plan c.in-Some.c _ _ _ c.put.ensures.turn c.following-turn.ensures c.channels.ensures c.take.ensures.plan refl))
