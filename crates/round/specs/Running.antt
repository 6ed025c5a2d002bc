-- The plan, the net and the state of a fabric that is run. Assumes nothing.
use Rattle.net.specs.Net.{Net}
use Rattle.net.specs.declared.plan.Plan.{Plan}
use Rattle.machine.specs.Round.{State}
use Rattle.round.specs.Fabric.{net_at, state_of}
use Rattle.round.specs.declared.running.Running.{Running}

abbrev pub plan_in : Running → Plan
plan_in g = g.fabric.plan

abbrev pub net_in : Running → Net
net_in g = net_at g.fabric

abbrev pub state_in : Running → State
state_in g = state_of g.fabric
