use Rattle.std.proofs.Common.{is_ok}
use Rattle.machine.specs.Round.{Round}
use Rattle.round.specs.Fabric.{net_at}
use Rattle.round.proofs.Kept.{kept, past_on, round_enters_none}
use Rattle.round.proofs.running.Running.round.Goals as goal

pub invariant_of-self : goal.invariant_of-self
invariant_of-self c =
    let f = c.args.self.now.fabric in
    record { past = past_on f c.round.new.self Round (is_ok c.round.result) (round_enters_none (net_at f)) c.round.ensures.plan c.round.ensures.after c.args.self.now.past }

pub returns-clause-kept : goal.returns-clause-kept
returns-clause-kept c =
    let f = c.args.self.now.fabric in
    kept c.round.new.self
    (past_on f c.round.new.self Round (is_ok c.round.result) (round_enters_none (net_at f)) c.round.ensures.plan c.round.ensures.after c.args.self.now.past)
