-- A script that is played, at its beginning and on its way. Assumes nothing.
use Rattle.std.specs.Prelude.{◌≡◌, ℕ, List, Err}
use Rattle.play.specs.declared.play.Play.{Play}
use Rattle.play.specs.declared.stop.Stop.{Stop}
use Rattle.play.specs.declared.stop.Stop.TheVariants.{Script, Told}
use Rattle.play.specs.Games.{begin}
use Rattle.play.specs.Kept.{Course, Steps}
use Rattle.play.specs.Standing.{net_of_game, position_of}

-- all that is kept of it up to where it stands
abbrev pub OnCourse : Play → Type 0
OnCourse p = ∥ Course p.cables.now p.script.now (net_of_game p.game) p.at (position_of p.game) ∥₁

-- at the beginning of a script, against the hall of a list of cables
pub record Begins (cs bs : List ℕ) (p : Play) : Type 0 where
  pub cables : p.cables.now ≡ cs
  pub script : p.script.now ≡ bs
  pub at : p.at ≡ 0
  pub position : position_of p.game ≡ begin (net_of_game p.game)

-- the same lists and the same net
pub record IsSamePlay (old new : Play) : Type 0 where
  pub cables : new.cables.now ≡ old.cables.now
  pub script : new.script.now ≡ old.script.now
  pub net : net_of_game new.game ≡ net_of_game old.game

-- why a script is not played on: its own next step answers so; or it was not to be, for a cause that the script knows nothing of
abbrev pub Stops : {E : Type 0} → Play → Stop E → Type 0
Stops p (Script e) = Steps (net_of_game p.game) p.script.now p.at (position_of p.game) (Err e) p.at (position_of p.game)
Stops p (Told e) = Unit {0}
