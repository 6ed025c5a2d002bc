-- Lists of cables: the file 1, n, m, count (2), then two switches for each cable. Assumes nothing.
use Rattle.std.specs.Prelude.{ℕ, ◌/◌, ◌%◌, ◌<◌, ◌≤◌, cond, List, ◌∷◌, length, Ok, Err, Result, ◌==◌, nat_le, nat_lt, slice_index}
use Rattle.net.specs.Cables.{Joins}
use Rattle.net.specs.declared.Cable.{Cable}
use Rattle.wire.specs.declared.cables.Head.{Head}
use Rattle.wire.specs.declared.fault.Fault.{Fault}
use Rattle.wire.specs.declared.fault.Fault.TheVariants.{Switches, Room, TooManyCables, NoSwitch, Itself}
use Rattle.wire.specs.declared.fault.Refusal.{Refusal}
use Rattle.wire.specs.Files.{file_read, read_as}
use Rattle.wire.specs.Pairs.{Each, word, pair_bytes}
use Rattle.wire.specs.Heads.{within, beginning, unless}

-- a list of cables: how many switches, how many blocks a store has room for, the cables
pub record Cables : Type 0 where
  pub switches : ℕ
  pub room : ℕ
  pub cables : List Cable

-- a cable of two bytes: switches below n come before a switch to itself
abbrev pub cable_by : ℕ → ℕ → ℕ → Result Cable Fault
cable_by n a b =
    cond (nat_lt a n)
    (cond (nat_lt b n) (cond (a == b) (Err (Itself a)) (Ok (record { a = a; b = b }))) (Err (NoSwitch b)))
    (Err (NoSwitch a))

-- the head's numbers: how many switches, how many blocks a store has room for, how many cables
abbrev pub head_by_bytes : ℕ → ℕ → ℕ → Result Head Fault
head_by_bytes n m count =
    cond (within 64 n)
    (cond (within 32 m)
    (cond (nat_le count 128)
    (Ok (record { switches = n; room = m; count = count }))
    (Err (TooManyCables count)))
    (Err (Room m)))
    (Err (Switches n))

-- the head is one thing of five bytes
abbrev pub head_of : List ℕ → Result Head Fault
head_of bs = unless (beginning 1 5 bs) (head_by_bytes (slice_index bs 1) (slice_index bs 2) (word (slice_index bs 3) (slice_index bs 4)))

-- the list of a head and its cables
abbrev pub list_of : Head × List Cable → Cables
list_of x = record { switches = x.0.switches; room = x.0.room; cables = x.1 }

-- what a file says, or its first fault: the head, then each cable, then the end
abbrev pub cables_read : List ℕ → Result Cables Refusal
cables_read bs = read_as list_of (file_read head_of (λ h. cable_by h.switches) (λ h. h.count) 5 bs)

-- the file of a list of cables
abbrev pub encode_cables : Cables → List ℕ
encode_cables c =
    1 ∷ c.switches ∷ c.room ∷ length c.cables / 256 ∷ length c.cables % 256
    ∷ pair_bytes (λ x. x.a) (λ x. x.b) c.cables

-- a list that can be written
pub record Proper (c : Cables) : Type 0 where
  pub some : 0 < c.switches
  pub most : c.switches ≤ 64
  pub roomy : 0 < c.room
  pub small : c.room ≤ 32
  pub few : length c.cables ≤ 128
  pub each : Each (Joins c.switches) c.cables
