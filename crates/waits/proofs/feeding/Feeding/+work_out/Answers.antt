use Rattle.std.proofs.Common.{◌≡◌, ℕ, ◌*◌, ◌<◌, max, length, sym, refl, ap, ◌∙◌, subst, arith}
use Rattle.net.specs.Layout.{net_of}
use Rattle.net.specs.Net.{channels}
use Rattle.net.specs.declared.Entry.TheVariants.{Here, Link}
use Rattle.std.proofs.lemmas.List.{get_or-set_same}
use Rattle.machine.specs.Waits.{feeders, worst, patience}
use Rattle.waits.specs.Laws.{share}
use Rattle.waits.proofs.Counting.{fed_read}
use Rattle.waits.proofs.Fuel.{higher, higher_falls, patience_law}
use Rattle.waits.proofs.Plans.{plan_good, plan_link, told}
use Rattle.waits.proofs.Working.{patience_over, share_over, patience_some, partly_set, stays_set, worst_here, share_step}
use Rattle.waits.proofs.feeding.Feeding.+work_out.Goals as goal
use Rattle.waits.proofs.feeding.Feeding.+work_out.Goals.{in-Link+in_ok-there+in_ok-times, in_default}

pub loop-p-init : goal.loop-p-init
unfolding worst
loop-p-init t c = record { most = refl; short = omega arith; partly = c.requires.partly; stays = λ d h. h }

pub work_out-requires : goal.work_out-requires
work_out-requires t c =
    let m = c.args.self.now.plan.now in
    let q = told m c.args.c c.loop-p.p (Link c.in-Link.e) c.in-Link.ensures in
    let l : c.in-Link.e < m.layout.links = plan_link m c.args.c c.loop-p.p c.in-Link.e q in
    let f = higher_falls (net_of m.layout) (plan_good m) c.args.c c.loop-p.p c.in-Link.e q in
    let ms : higher (net_of m.layout) c.args.c ≡ t = c.decreases in
    (subst (λ (k : ℕ). higher (net_of m.layout) c.in-Link.e < k) ms f, (omega arith, c.loop-p.invariant.partly))

pub returns-in_err-there-clause-answer : goal.returns-in_err-there-clause-answer
returns-in_err-there-clause-answer t c =
    let m = c.args.self.now.plan.now in
    let q = told m c.args.c c.loop-p.p (Link c.in-Link.e) c.in-Link.ensures in
    let o = patience_over (net_of m.layout) (plan_good m) c.args.c c.loop-p.p c.in-Link.e c.requires.channel (omega arith) q in
    let long = c.in_err-there.ensures.answer in
    rw c.from_residual.ensures (omega arith)

pub returns-in_err-times-clause-answer : goal.returns-in_err-times-clause-answer
returns-in_err-times-clause-answer t c =
    let m = c.args.self.now.plan.now in
    let q = told m c.args.c c.loop-p.p (Link c.in-Link.e) c.in-Link.ensures in
    let l : c.in-Link.e < m.layout.links = plan_link m c.args.c c.loop-p.p c.in-Link.e q in
    let o = share_over (net_of m.layout) (plan_good m) c.args.c c.loop-p.p c.in-Link.e (omega arith) q in
    let n : c.index.result.now.number ≡ feeders (net_of m.layout) c.in-Link.e (channels (net_of m.layout)) =
    fed_read (net_of m.layout) c.args.self.now.feeders.items c.args.self.now.fed c.in-Link.e c.index.result.now l c.index.ensures in
    let there = c.in_ok-there.ensures.answer.is in
    let same : c.index.result.now.number * c.in_ok-there.there ≡ share (net_of m.layout) c.in-Link.e = cc in
    let long = c.in_err-times.ensures in
    rw c.from_residual-in_err-times.ensures (omega arith)

pub loop-p-preserved : goal.loop-p-preserved
loop-p-preserved t c =
    let m = c.args.self.now.plan.now in
    let z = net_of m.layout in
    let v = c.loop-p.invariant in
    elim c.match-entry.branch [
      | in-Link+in_ok-there+in_ok-times w ↦
          let e = w.in-Link.e in
          let q = told m c.args.c c.loop-p.p (Link e) w.in-Link.ensures in
          let n = fed_read z c.args.self.now.feeders.items c.args.self.now.fed e w.index.result.now (plan_link m c.args.c c.loop-p.p e q) w.index.ensures in
          let there = w.in_ok-there.ensures.answer.is in
          let r = w.in_ok-times.ensures in
          let new : c.match-entry.most ≡ max c.loop-p.most w.in_ok-times.field-0 = cc (w.most-is, w.max-most.ensures) in
          let s = share_step z c.args.c c.loop-p.p e w.index.result.now.number w.in_ok-there.there
          w.in_ok-times.field-0 c.loop-p.most c.match-entry.most q n there r.0 r.1 v.most v.short new in
          record {
            most = s.0;
            short = s.1;
            partly = rw w.found-is w.work_out.ensures.partly;
            stays = λ d x. rw w.found-is (w.work_out.ensures.stays d (v.stays d x));
          }
      | in_default w ↦
          let h = worst_here z (share z) c.args.c c.loop-p.p (told m c.args.c c.loop-p.p Here w.in_default.ensures) in
          record {
            most = w.most-is ∙ (v.most ∙ sym h);
            short = omega (arith, w.most-is, v.short);
            partly = rw w.found-is v.partly;
            stays = λ d x. rw w.found-is (v.stays d x);
          }
    ]

pub returns : goal.returns
returns t c =
    let m = c.args.self.now.plan.now in
    let z = net_of m.layout in
    let v = c.loop-p.invariant in
    let k = v.partly.slots in
    let e : c.loop-p.p ≡ z.places = omega arith in
    let is : c.loop-p.most ≡ patience z c.args.c =
    v.most ∙ (ap (λ (n : ℕ). worst z (share z) c.args.c n) e ∙ sym (patience_law z (plan_good m) c.args.c)) in
    let some = patience_some z c.args.c in
    let slot : c.args.c < length c.loop-p.found = omega (arith, c.requires.channel) in
    let new = get_or-set_same c.loop-p.found c.args.c c.loop-p.most 0 slot in
    record {
      partly = partly_set z c.loop-p.found c.args.c c.loop-p.most v.partly c.requires.channel is v.short;
      stays = λ d h. stays_set c.loop-p.found c.args.c c.loop-p.most slot (omega arith) d (v.stays d h);
      answer = record { is = is; short = v.short; kept = omega arith };
    }
