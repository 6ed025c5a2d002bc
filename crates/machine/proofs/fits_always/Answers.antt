use Rattle.machine.proofs.Counts.{fits}
use Rattle.machine.proofs.fits_always.Goals as goal

pub returns : goal.returns
returns c = fits
