use Rattle.std.proofs.Common.{is_ok}
use Rattle.machine.specs.Round.{Enter}
use Rattle.round.specs.Fabric.{net_at}
use Rattle.round.proofs.Kept.{kept, past_on, this_enters}
use Rattle.round.proofs.running.Running.let_in.Goals as goal

pub returns-in-Some-clause-kept : goal.returns-in-Some-clause-kept
returns-in-Some-clause-kept c = kept c.args.self.now.fabric c.args.self.now.past

pub invariant_of-self : goal.invariant_of-self
invariant_of-self c =
    let f = c.args.self.now.fabric in
    let w = c.in_default.ensures in
    record { past = past_on f c.let_in.new.self (Enter c.args.block) (is_ok c.let_in.result) (this_enters (net_at f) c.args.block w.0 w.1) c.let_in.ensures.plan c.let_in.ensures.after c.args.self.now.past }

pub returns-in_err-let_in-clause-kept : goal.returns-in_err-let_in-clause-kept
returns-in_err-let_in-clause-kept c =
    let f = c.args.self.now.fabric in
    let w = c.in_default.ensures in
    kept c.let_in.new.self
    (past_on f c.let_in.new.self (Enter c.args.block) (is_ok c.let_in.result) (this_enters (net_at f) c.args.block w.0 w.1) c.let_in.ensures.plan c.let_in.ensures.after c.args.self.now.past)

pub returns-clause-kept : goal.returns-clause-kept
returns-clause-kept c =
    let f = c.args.self.now.fabric in
    let w = c.in_default.ensures in
    kept c.let_in.new.self
    (past_on f c.let_in.new.self (Enter c.args.block) (is_ok c.let_in.result) (this_enters (net_at f) c.args.block w.0 w.1) c.let_in.ensures.plan c.let_in.ensures.after c.args.self.now.past)
