-- Why a layout is refused. Assumes nothing.
use Rattle.net.specs.declared.error.PlanError.{PlanError}
use Rattle.net.specs.declared.error.PlanError.TheVariants.{Sizes, Falls, Memory}
use Rattle.net.specs.declared.serving.OrderError.{OrderError}
use Rattle.net.specs.declared.serving.OrderError.TheVariants.{TooMany, Memory as NoMemory}
use Rattle.net.specs.declared.layout.Layout.{Layout}
use Rattle.net.specs.Layout.{Sized, FirstOfAll, AllRise}

-- sizes come first, then the first entry that does not rise, then want of memory
abbrev pub Refuses : Layout → PlanError → Type 0
Refuses l Sizes = Sized l → ⊥
Refuses l (Falls c p) = Sized l × FirstOfAll l c p
Refuses l Memory = Sized l × AllRise l

-- a layout with too many links for an order of serving is one whose sizes are refused
abbrev pub refusal_of : OrderError → PlanError
refusal_of TooMany = Sizes
refusal_of NoMemory = Memory
