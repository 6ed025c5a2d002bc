use Rattle.std.proofs.Common.{ltb, rules, tests, arith}
use Rattle.std.proofs.lemmas.Iterator.{YieldsList-from_slice}
use Rattle.std.proofs.lemmas.Iterator.Search.{position_from_yields_List}
use Rattle.std.proofs.lemmas.Grind.{common_steps}
use Rattle.net.specs.Position.{rank_of}
use Rattle.net.proofs.Positions.{position_fits}
use Rattle.net.proofs.serving.position_of.Goals as goal

pub returns : goal.returns
returns c =
    let p = position_from_yields_List (λ k. ltb (rank_of c.args.ranks.now k) (rank_of c.args.ranks.now c.args.link)) _ _ c.position.result c.position.ensures.ran (YieldsList-from_slice c.args.served.now cc) (λ x b q k. search (rules, tests)) in
    let f = position_fits (rank_of c.args.ranks.now) c.args.link c.args.served.now in
    grind (arith, common_steps)
