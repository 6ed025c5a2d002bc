use Rattle.std.proofs.Common.{rules}
use Rattle.tree.specs.Made.{Planted}
use Rattle.table.proofs.Whole.{planned}
use Rattle.table.proofs.laying.layout.Goals as goal

pub returns : goal.returns
returns c =
    let made : Planted c.in_ok-cabling.cabling c.in_ok-cabling.cabling.root c.in_ok-tree.tree = search rules in
    planned c.args.switches c.args.room c.args.cables.now c.in_ok-cabling.cabling c.in_ok-tree.tree c.lay.result c.in_ok-cabling.ensures made c.lay.ensures
