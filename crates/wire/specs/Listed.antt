-- What the code's list of cables holds. Assumes nothing.
use Rattle.std.specs.Prelude.{vec_items}
use Rattle.wire.specs.declared.list.CableList.{CableList}
use Rattle.wire.specs.Cables.{Cables}

abbrev pub listed : CableList → Cables
listed l = record { switches = l.switches; room = l.room; cables = vec_items l.cables }
