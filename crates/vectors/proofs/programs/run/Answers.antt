use Rattle.vectors.proofs.Runs.{cables_stop}
use Rattle.vectors.proofs.programs.run.Goals as goal

pub returns-in-Err : goal.returns-in-Err
returns-in-Err c = cables_stop c.args.cables.now c.args.script.now c.in-Err.error c.new.result c.refused.result c.in-Err.ensures.answer c.refused.ensures
