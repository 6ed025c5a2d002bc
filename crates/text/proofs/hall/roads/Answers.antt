use Rattle.std.proofs.Common.{string_bytes, refl}
use Rattle.text.specs.Laid.{road_one}
use Rattle.text.proofs.Eachs.{below_starts, below_grows}
use Rattle.text.proofs.hall.roads.Goals as goal

pub loop-place-init : goal.loop-place-init
loop-place-init c way ways = below_starts (road_one c.args.hall.now way c.args.from) (string_bytes c.args.text.now) (string_bytes c.args.text.now) refl

pub loop-place-preserved : goal.loop-place-preserved
loop-place-preserved c way ways =
    below_grows (road_one c.args.hall.now way c.args.from) (string_bytes c.args.text.now) (string_bytes c.loop-place.text) (string_bytes c.road.new.text) c.loop-place.place (c.loop-place.invariant way ways)
    (c.in_ok-road.ensures (way c.args.from c.loop-place.place) (ways c.args.from c.loop-place.place))
