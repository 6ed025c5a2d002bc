use Rattle.std.proofs.Common.{vec_items, sym, refl, ◌∙◌, arith}
use Rattle.net.specs.Net.{channels}
use Rattle.round.specs.Fabric.{net_at, state_of, waiting}
use Rattle.round.proofs.Halves.{in_half, no_half}
use Rattle.round.proofs.States.{turn_read}
use Rattle.round.proofs.fabric.Fabric.look.Goals as goal

pub returns-after-look : goal.returns-after-look
returns-after-look c =
    let f = c.args.self.now in
    let k = f.links.ok.0 in
    let e = c.args.e in
    let t = turn_read (vec_items f.links) (waiting f) (vec_items f.came) f.rounds e c.index.result.now (omega arith) c.index.ensures in
    let b = f.turned e c.requires in
    rw t (
    c.look.invariant.0 ∙
    sym (no_half (net_at f) e (state_of f).queue c.index.result.now.turn (channels (net_at f)) refl (omega arith) (c.look.invariant.1 (omega arith)) (c.look.invariant.2 (omega arith))))

pub returns-then-wants : goal.returns-then-wants
returns-then-wants c =
    let f = c.args.self.now in
    let k = f.links.ok.0 in
    let e = c.args.e in
    let t = turn_read (vec_items f.links) (waiting f) (vec_items f.came) f.rounds e c.index.result.now (omega arith) c.index.ensures in
    let b = f.turned e c.requires in
    rw t (
    sym (in_half (net_at f) e (state_of f).queue c.index.result.now.turn c.channels.result c.loop-c.c c.look.from-index c.channels.ensures (omega arith)
    c.loop-c.auto.c c.loop-c-test.true c.loop-c.invariant.1 c.look.invariant.1 (sym c.if-wants.ensures)))
