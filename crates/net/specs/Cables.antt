-- What a cable is to have. Assumes nothing.
use Rattle.std.specs.Prelude.{◌≡◌, ℕ, ◌<◌}
use Rattle.net.specs.declared.Cable.{Cable}

-- a cable joins two switches
pub record Joins (n : ℕ) (c : Cable) : Type 0 where
  pub from : c.a < n
  pub to : c.b < n
  pub apart : c.a ≡ c.b → ⊥
