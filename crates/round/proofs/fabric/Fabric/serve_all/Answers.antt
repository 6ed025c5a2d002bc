use Rattle.std.proofs.Common.{◌≡◌, ℕ, List, length, get_or, refl, ap, ◌∙◌, arith}
use Rattle.machine.specs.Round.{serve, all_served}
use Rattle.net.specs.Layout.{net_of}
use Rattle.net.specs.Order.{serving}
use Rattle.net.specs.declared.plan.Plan.{Plan}
use Rattle.round.specs.Fabric.{net_at, state_of}
use Rattle.round.proofs.Stays.{link_served, serve_more}
use Rattle.round.proofs.fabric.Fabric.serve_all.Goals as goal

pub loop-i-init : goal.loop-i-init
unfolding all_served
loop-i-init c = record { after = refl; plan = refl }

pub serve-requires : goal.serve-requires
serve-requires c =
    let z = net_at c.args.self.now in
    let k = ap (λ (p : Plan). p.layout.links) c.loop-i.invariant.plan in
    let q : c.order.result.now ≡ serving z = c.order.ensures ∙ ap (λ (p : Plan). serving (net_of p.layout)) c.loop-i.invariant.plan in
    let r = ap (λ (es : List ℕ). get_or es c.loop-i.i 0) q in
    let h = c.loop-i-test.true in
    let n = ap length c.order-i-end.ensures in
    let l = link_served z c.loop-i.i (omega arith) in
    omega arith

pub loop-i-preserved : goal.loop-i-preserved
loop-i-preserved c =
    let f = c.args.self.now in
    let z = net_at f in
    let i = c.loop-i.invariant in
    let q : c.order.result.now ≡ serving z = c.order.ensures ∙ ap (λ (p : Plan). serving (net_of p.layout)) i.plan in
    let n = ap length c.order-i-end.ensures in
    record {
      after = c.serve.ensures.after ∙
          ap (λ (p : Plan). serve (net_of p.layout) (get_or c.order.result.now c.loop-i.i 0) (state_of c.loop-i.self)) i.plan ∙
          ap (λ (es : List ℕ). serve z (get_or es c.loop-i.i 0) (state_of c.loop-i.self)) q ∙
          ap (serve z (get_or (serving z) c.loop-i.i 0)) i.after ∙ serve_more z (serving z) c.loop-i.i (state_of f) (omega arith);
      plan = c.serve.ensures.plan ∙ i.plan;
    }
