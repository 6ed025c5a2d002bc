use Rattle.std.proofs.Common.{◌≡◌}
use Rattle.play.specs.declared.stop.Stop.TheVariants.{Script}
use Rattle.vectors.proofs.Runs.{ends_well, script_stops}
use Rattle.vectors.proofs.programs.through.Goals as goal

pub returns-in-Ok : goal.returns-in-Ok
returns-in-Ok c = let a = c.in-Ok.ensures in ends_well c.args.play c.play_out-played.new.self a.same a.kept a.answer

pub returns-in-Err-Script : goal.returns-in-Err-Script
returns-in-Err-Script c =
    let a = c.play_out-played.ensures in
    let y : c.in-Err-Script.field-0 ≡ Script c.in-Err-Script.error = cc in
    script_stops c.args.play c.play_out-played.new.self c.in-Err-Script.field-0 c.in-Err-Script.error _ c.refused.result y a.same a.kept (rw c.in-Err-Script.is at a.answer) c.refused.ensures
