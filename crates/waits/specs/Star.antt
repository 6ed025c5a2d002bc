-- A star of four switches with stores of two: the wait from a leaf to another. Assumes nothing.
use Rattle.std.specs.Prelude.{◌≡◌, ℕ, zero, suc, ◌+◌, ◌-◌, ◌*◌, ◌/◌, ◌%◌, Bool, cond, ◌==◌, nat_lt}
use Rattle.net.specs.declared.Entry.{Entry}
use Rattle.net.specs.declared.Entry.TheVariants.{Here, Link}
use Rattle.net.specs.Net.{Net, channels}
use Rattle.machine.specs.Waits.{feeders, patience, wait}

-- Cable k joins leaf k + 1 and the middle, switch 0: link 2k goes up to the middle, link 2k + 1 down to the leaf. Door s is channel 6 + s.
-- Links up: 0, 2, 4.
abbrev pub is_up : ℕ → Bool
is_up c = c % 2 == 0

-- the switch at which a channel ends
abbrev pub end_of : ℕ → ℕ
end_of c = cond (nat_lt c 6) (cond (is_up c) 0 (c / 2 + 1)) (c - 6)

-- the leaf from which a link up comes; no leaf for any other channel
abbrev pub comes_from : ℕ → ℕ
comes_from c = cond (nat_lt c 6) (cond (is_up c) (c / 2 + 1) 0) 0

-- At its switch a block is here; in the middle it goes down to its leaf, but a link up never carries a block for the leaf that it comes
-- from, and such entries say here; from a leaf's door it goes up.
abbrev pub goes_on : ℕ → ℕ → Entry
goes_on c zero = cond (end_of c == 0) Here (cond (nat_lt c 6) Here (Link (2 * (c - 7))))
goes_on c (suc p) =
    cond (end_of c == 0) (cond (comes_from c == suc p) Here (cond (nat_lt p 3) (Link (2 * p + 1)) Here))
    (cond (nat_lt c 6) Here (cond (end_of c == suc p) Here (Link (2 * (c - 7)))))

abbrev pub star : Net
star = record {
  links = 6;
  doors = 4;
  places = 4;
  store = 2;
  next = goes_on;
  rank = λ c. cond (nat_lt c 6) (cond (is_up c) 1 2) 0;
  ends = end_of;
}

-- Each link down has three feeders; links up and the doors of leaves have a patience of 3, links down of 1;
-- and from the door of leaf 1 to leaf 2, with nothing before, the wait is 3 + 2 * 3 + 2 * 1 = 11.
abbrev pub StarWaits : Type 0
StarWaits =
    (feeders star 1 (channels star) ≡ 3) × (feeders star 3 (channels star) ≡ 3) × (feeders star 5 (channels star) ≡ 3) ×
    (patience star 0 ≡ 3) × (patience star 3 ≡ 1) × (patience star 7 ≡ 3) ×
    (wait star 0 7 2 ≡ 11)
