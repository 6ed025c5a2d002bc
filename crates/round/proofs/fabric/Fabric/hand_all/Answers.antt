use Rattle.std.proofs.Common.{refl, ap, ◌∙◌, arith}
use Rattle.machine.specs.Round.{all_handed, handed_over}
use Rattle.net.specs.Layout.{net_of}
use Rattle.net.specs.declared.plan.Plan.{Plan}
use Rattle.round.specs.Fabric.{net_at, state_of}
use Rattle.round.proofs.Stays.{hand_more}
use Rattle.round.proofs.fabric.Fabric.hand_all.Goals as goal

pub loop-c-init : goal.loop-c-init
unfolding all_handed
loop-c-init c = record { after = refl; plan = refl; room = omega arith }

pub loop-c-preserved : goal.loop-c-preserved
loop-c-preserved c =
    let f = c.args.self.now in
    let i = c.loop-c.invariant in
    let k = ap (λ (p : Plan). p.layout.links) i.plan in
    let d = ap (λ (p : Plan). p.layout.doors) i.plan in
    record {
      after = c.hand_over.ensures.after ∙
          ap (λ (p : Plan). handed_over (net_of p.layout) c.loop-c.c (state_of c.loop-c.self)) i.plan ∙
          ap (handed_over (net_at f) c.loop-c.c) i.after ∙ hand_more (net_at f) c.loop-c.c (state_of f);
      plan = c.hand_over.ensures.plan ∙ i.plan;
      room = omega arith;
    }
