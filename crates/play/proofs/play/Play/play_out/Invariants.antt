use Rattle.std.proofs.Common.{◌-◌, length}
use Rattle.play.specs.Played.{IsSamePlay}
use Rattle.play.proofs.play.Play.play_out.Given as goal

abbrev pub invariant-loop-tell : goal.invariant-loop-tell
invariant-loop-tell g l = goal.F-IsAlwaysCallable g l.tell × IsSamePlay l.initial.self l.self

abbrev pub decreases-loop-tell : goal.decreases-loop-tell
decreases-loop-tell g l = length l.self.script.now - l.self.at
