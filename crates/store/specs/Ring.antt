-- A list as a ring: what is read from a place on, going round at the end. Assumes nothing.
use Rattle.std.specs.Prelude.{ℕ, List, ◌++◌, take, drop}

-- the ring from place i on, all the way round
abbrev pub round : {A : Type 0} → List A → ℕ → List A
round xs i = drop i xs ++ take i xs

-- n elements from place i on
unfoldable pub ring_of : {A : Type 0} → List A → ℕ → ℕ → List A
ring_of xs i n = take n (round xs i)
