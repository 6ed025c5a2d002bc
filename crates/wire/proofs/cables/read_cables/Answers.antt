-- The value is the definition's, so it is one that can be written. Assumes nothing.
use Rattle.std.proofs.Common.{rules}
use Rattle.wire.proofs.CableLaws.{cables_proper}
use Rattle.wire.proofs.cables.read_cables.Goals as goal

pub returns : goal.returns
returns c =
    record { is = search rules; proper = cables_proper c.args.bytes.now _ (search rules) }
