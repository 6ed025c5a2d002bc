-- The star's feeders, patience and wait, computed. Assumes nothing.
use Rattle.std.proofs.Common.{refl}
use Rattle.machine.specs.Waits.{feeders, feeds, within, worst, onward}
use Rattle.waits.specs.Star.{StarWaits}

pub star_worked : StarWaits
unfolding feeders feeds within worst onward
star_worked = (refl, refl, refl, refl, refl, refl, refl)
