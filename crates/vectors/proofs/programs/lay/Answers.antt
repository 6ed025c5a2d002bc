use Rattle.std.proofs.Common.{string_bytes}
use Rattle.text.specs.Laid.{text_of_hall}
use Rattle.vectors.proofs.Runs.{in_one_piece}
use Rattle.vectors.proofs.programs.lay.Goals as goal

pub returns-in_ok-text-in-Ok : goal.returns-in_ok-text-in-Ok
returns-in_ok-text-in-Ok c = (
  c.in-Ok.hall,
  c.in-Ok.ensures,
  λ way w. in_one_piece c.after.result.0 c.new.result.0 c.as_str.result.now (string_bytes c.in_ok-text-in-Ok.text) (text_of_hall c.in-Ok.hall way)
      c.after.ensures c.new.ensures c.as_str.ensures.value (c.in_ok-text-in-Ok.ensures way w),
)
