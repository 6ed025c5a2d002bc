use Rattle.std.proofs.Common.{◌≡◌, length, refl, ap, ◌∙◌, subst}
use Rattle.std.proofs.lemmas.Result.{err_from_is_err_and}
use Rattle.net.specs.declared.plan.Plan.{Plan}
use Rattle.net.specs.Layout.{net_of}
use Rattle.net.specs.Net.{Net}
use Rattle.waits.specs.Working.{Within}
use Rattle.wire.specs.Listed.{listed}
use Rattle.plan.specs.Halls.{hall_net}
use Rattle.plan.specs.Built.{Late, Serving}
use Rattle.plan.proofs.Accepted.{accepted_is, drawn_net, late_is, severed_is}
use Rattle.plan.proofs.hall.Hall.lay.Goals as goal

pub returns-in_err-tree : goal.returns-in_err-tree
returns-in_err-tree c =
    let p = err_from_is_err_and c.from_residual-in_err-tree.result c.from_residual-in_err-tree.ensures.1 in
    rw (p.1, p.2)
    (severed_is c.args.bytes.now (listed c.in_ok-list.list) c.in_ok-list.ensures.proper c.in_ok-list.ensures.is
    c.in_err-tree.field-0.0 c.in_err-tree.ensures)

pub returns-in_err-bounds : goal.returns-in_err-bounds
returns-in_err-bounds c =
    let p = err_from_is_err_and c.from_residual-in_err-bounds.result c.from_residual-in_err-bounds.ensures.1 in
    let l = listed c.in_ok-list.list in
    let g = c.in_ok-tree.ensures in
    let n : net_of c.in_ok-plan.plan.layout ≡ hall_net l = drawn_net l c.in_ok-tree.tree c.in_ok-plan.plan g c.in_ok-plan.ensures in
    rw (p.1, p.2)
    (late_is c.args.bytes.now l c.in_ok-list.ensures.proper c.in_ok-list.ensures.is g.joined c.in_err-bounds.field-0.0
    (subst (λ (z : Net). Late z (length c.args.bytes.now) c.in_err-bounds.field-0.0) n c.in_err-bounds.ensures))

pub returns : goal.returns
returns c =
    let l = listed c.in_ok-list.list in
    let g = c.in_ok-tree.ensures in
    let n : net_of c.in_ok-plan.plan.layout ≡ hall_net l = drawn_net l c.in_ok-tree.tree c.in_ok-plan.plan g c.in_ok-plan.ensures in
    let w : Within (hall_net l) = subst (λ (z : Net). Within z) n c.in_ok-bounds.ensures.1 in (
      l,
      accepted_is c.args.bytes.now l c.in_ok-list.ensures.proper c.in_ok-list.ensures.is g.joined w,
      record { list = refl; tree = g; net = ap (λ (m : Plan). net_of m.layout) c.in_ok-bounds.ensures.0 ∙ n; serves = subst (λ (z : Net). Serving z) n c.in_ok-plan.ensures.serves; soon = w },
    )
