use Rattle.std.proofs.Common.{sym, ◌∙◌}
use Rattle.table.proofs.Stepping.{looks_up, looks_down}
use Rattle.table.proofs.sweep.Sweep.look.Goals as goal

pub returns-then-goes_up : goal.returns-then-goes_up
returns-then-goes_up c =
    looks_up c.args.self.now c.args.k c.from-begin.result c.from-end.result c.requires (c.from-begin.ensures ∙ c.link-from.ensures.from) (c.from-end.ensures ∙ c.link-from.ensures.to) c.step.new.self (sym c.goes_up.ensures ∙ c.if-goes_up.true) c.step.ensures

pub returns-else-goes_up : goal.returns-else-goes_up
returns-else-goes_up c =
    looks_down c.args.self.now c.args.k c.from-begin.result c.from-end.result c.requires (c.from-begin.ensures ∙ c.link-from.ensures.from) (c.from-end.ensures ∙ c.link-from.ensures.to) c.step-else-goes_up.new.self c.step-else-goes_up-2.new.self
    (sym c.goes_up.ensures ∙ c.if-goes_up.false) c.step-else-goes_up.ensures c.step-else-goes_up-2.ensures
