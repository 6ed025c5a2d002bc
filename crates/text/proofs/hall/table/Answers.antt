use Rattle.std.proofs.Common.{string_bytes, refl}
use Rattle.text.specs.Laid.{row_text}
use Rattle.text.proofs.Eachs.{below_starts, below_grows}
use Rattle.text.proofs.hall.table.Goals as goal

pub loop-channel-init : goal.loop-channel-init
loop-channel-init c = below_starts (row_text c.args.hall.now) (string_bytes c.args.text.now) (string_bytes c.args.text.now) refl

pub loop-channel-preserved : goal.loop-channel-preserved
loop-channel-preserved c =
    let h = c.args.hall.now in
    let s = string_bytes c.loop-channel.text in
    below_grows (row_text c.args.hall.now) (string_bytes c.args.text.now) s (string_bytes c.row.new.text) c.loop-channel.channel c.loop-channel.invariant
    c.in_ok-row.ensures
