-- Feeders, patience and wait, worked out from a net alone. Assumes nothing.
use Rattle.std.specs.Prelude.{ℕ, zero, suc, ◌+◌, ◌*◌, max, Bool, false, cond, ◌||◌}
use Rattle.net.specs.declared.Entry.{Entry}
use Rattle.net.specs.declared.Entry.TheVariants.{Here, Link}
use Rattle.net.specs.Net.{Net, channels, is_to}

-- the table sends the blocks of some place below p from channel c to link e
unfoldable pub feeds : Net → ℕ → ℕ → ℕ → Bool
feeds z e c zero = false
feeds z e c (suc p) = is_to e (z.next c p) || feeds z e c p

-- how many of the channels below c are feeders of link e: the table sends some place's blocks from them to e
unfoldable pub feeders : Net → ℕ → ℕ → ℕ
feeders z e zero = 0
feeders z e (suc c) = cond (feeds z e c z.places) 1 0 + feeders z e c

abbrev pub by_entry : ℕ → (ℕ → ℕ) → Entry → ℕ
by_entry n f Here = n
by_entry n f (Link e) = f e

-- the largest over the places below p
unfoldable pub worst : Net → (ℕ → ℕ) → ℕ → ℕ → ℕ
worst z f c zero = 1
worst z f c (suc p) = max (by_entry 1 f (z.next c p)) (worst z f c p)

-- at most k links on from c
unfoldable pub within : ℕ → Net → ℕ → ℕ
within zero z c = 1
within (suc k) z c = worst z (λ e. feeders z e (channels z) * within k z e) c z.places

-- The patience of a channel: the most rounds that a block stands first in it. Roads have at most as many links as there are.
abbrev pub patience : Net → ℕ → ℕ
patience z c = within (suc z.links) z c

-- the further links of the road of a block for place p, at most k of them, from channel c: for each as much as its full store takes
unfoldable pub onward : ℕ → Net → ℕ → ℕ → ℕ
onward zero z c p = 0
onward (suc k) z c p = by_entry 0 (λ e. z.store * patience z e + onward k z e p) (z.next c p)

-- The wait of a block for place p with i others before it in channel c: the most rounds until it has come.
abbrev pub wait : Net → ℕ → ℕ → ℕ → ℕ
wait z i c p = (i + 1) * patience z c + onward (suc z.links) z c p
