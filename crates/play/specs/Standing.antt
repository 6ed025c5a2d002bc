-- Where a game stands: a fabric, and the names that its doors still take. Assumes nothing.
use Rattle.std.specs.Prelude.{◌≡◌, ℕ, cond, is_ok, IfErr, List, Result, vec_items, slice_index}
use Rattle.wire.specs.declared.fault.WireError.{WireError}
use Rattle.wire.specs.declared.fault.WireError.TheVariants.{Memory}
use Rattle.net.specs.Net.{Net}
use Rattle.round.specs.Running.{net_in, state_in}
use Rattle.round.specs.declared.running.Running.{Running}
use Rattle.wire.specs.declared.script.Thing.{Thing}
use Rattle.play.specs.declared.game.Game.{Game}
use Rattle.play.specs.Games.{Position, play_thing}

abbrev pub standing : Running → List ℕ → Position
standing r fs = record { state = state_in r; fresh = λ d. slice_index fs d }

-- the net on which a game is played
abbrev pub net_of_game : Game → Net
net_of_game g = net_in g.running

-- where it stands
abbrev pub position_of : Game → Position
position_of g = standing g.running (vec_items g.fresh)

-- what is left of a game where a thing was to be taken: played, or nothing changed where memory was wanting
pub record Takes (t : Thing) (old : Game) (done : Result (Unit {0}) WireError) (new : Game) : Type 0 where
  pub net : net_of_game new ≡ net_of_game old
  pub after : position_of new ≡ cond (is_ok done) (play_thing (net_of_game old) t (position_of old)) (position_of old)
  pub wants : IfErr done (λ e. e ≡ Memory)
