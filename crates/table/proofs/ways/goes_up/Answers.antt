use Rattle.std.proofs.Common.{vec_items, ap, arith}
use Rattle.std.proofs.lemmas.List.{get_or_read}
use Rattle.tree.specs.Listed.{no_way}
use Rattle.tree.specs.declared.way.Way.{Way}
use Rattle.tree.proofs.Growing.{ways_in}
use Rattle.table.proofs.ways.goes_up.Goals as goal

pub index-requires : goal.index-requires
index-requires c = omega (arith, ways_in c.args.tree.now)

pub returns : goal.returns
returns c = ap (λ (w : Way). w.up) (get_or_read (vec_items c.args.tree.now.ways) _ _ (omega (arith, ways_in c.args.tree.now, c.args.tree.now.ways.ok.0)) c.index.ensures no_way)
