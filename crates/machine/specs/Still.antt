-- The other side: a ring of four switches whose table sends every block round by 0, 1, 2, 3, 0, with stores of one. Assumes nothing.
use Rattle.std.specs.Prelude.{◌≡◌, ℕ, ◌+◌, ◌-◌, ◌%◌, ◌<◌, cond, [], ◌∷◌, ◌==◌, nat_lt}
use Rattle.net.specs.declared.Block.{Block}
use Rattle.net.specs.declared.Entry.TheVariants.{Here, Link}
use Rattle.net.specs.Net.{Net, Good}
use Rattle.machine.specs.Round.{State, Enter, Round, after, round, counted}

-- link k goes from switch k to the next one round; doors are channels 4 to 7
abbrev pub end : ℕ → ℕ
end c = cond (nat_lt c 4) ((c + 1) % 4) (c - 4)

abbrev pub ring_of_four : (ℕ → ℕ) → Net
ring_of_four rank = record {
  links = 4;
  doors = 4;
  places = 4;
  store = 1;
  next = λ c p. cond (end c == p) Here (Link (end c));
  rank = rank;
  ends = end;
}

abbrev pub for_two_on : ℕ → Block
for_two_on d = record { door = d; place = (d + 2) % 4; name = 0 }

abbrev pub in_turn : Net
in_turn = ring_of_four (λ c. c)

-- blocks for two switches on enter at each door; after three rounds those that are left stand one in each link
abbrev pub filled : State
filled = after in_turn (
    Enter (for_two_on 0) ∷ Enter (for_two_on 1) ∷ Enter (for_two_on 1) ∷ Enter (for_two_on 2) ∷ Enter (for_two_on 2) ∷
    Enter (for_two_on 3) ∷ Enter (for_two_on 3) ∷ Round ∷ Round ∷ Round ∷ [])

-- Each link holds a block for two switches on, and a round changes nothing but the number of rounds. No ranks make this net good.
abbrev pub StandsStill : Type 0
StandsStill =
    ((d : ℕ) → d < 4 → filled.queue d ≡ for_two_on d ∷ []) ×
    (round in_turn filled ≡ counted filled) ×
    ((rank : ℕ → ℕ) → Good (ring_of_four rank) → ⊥)
