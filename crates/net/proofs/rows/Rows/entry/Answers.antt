use Rattle.std.proofs.Common.{◌+◌, arith}
use Rattle.std.proofs.lemmas.Nat.{mul-add-lt}
use Rattle.net.proofs.rows.Rows.entry.Goals as goal

pub index-requires : goal.index-requires
index-requires c =
    let l = c.args.self.now.layout.now in
    let t = c.args.self.now.sized.table in
    let r = c.args.self.now.sized.ranks in
    omega (arith, mul-add-lt c.args.c l.places c.args.p (l.links + l.doors) (omega arith) (omega arith))
