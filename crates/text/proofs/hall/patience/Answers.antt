use Rattle.std.proofs.Common.{◌+◌, vec_items, arith}
use Rattle.text.proofs.Eachs.{value_or}
use Rattle.text.proofs.hall.patience.Goals as goal

pub returns : goal.returns
returns c =
    let h = c.args.hall.now in
    value_or (vec_items h.bounds.found) c.patience.result c.args.channel (h.bounds.plan.layout.links + h.bounds.plan.layout.doors) _ c.unwrap_or.result c.patience.ensures c.unwrap_or.ensures
    (omega (arith, h.bounds.complete.slots)) (h.bounds.complete.right c.args.channel)
