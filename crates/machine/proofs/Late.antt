-- A block takes as long as its wait, by computing the run. Assumes nothing.
use Rattle.std.proofs.Common.{◌≡◌, refl}
use Rattle.net.specs.Order.{order, insert_by}
use Rattle.machine.specs.Round.{all_handed, all_served, look, play}
use Rattle.machine.specs.Waits.{wait, feeds, feeders, worst, within, onward}
use Rattle.machine.specs.OnTime.{OnTime, line}

five : wait line 0 5 2 ≡ 5
unfolding feeds feeders worst within onward
five = refl

pub on_time : OnTime
unfolding all_handed all_served look play order insert_by
on_time = (five, refl, refl, refl)
