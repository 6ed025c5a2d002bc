-- What is promised of every good net and every script. Each promise says what holds after a script; the theorem is that it
-- always does. Assumes nothing.
use Rattle.std.specs.Prelude.{◌≡◌, ℕ, zero, suc, ◌+◌, ◌<◌, ◌≤◌, Bool, cond, ◌&&◌, List, [], ◌∷◌, ◌++◌, length, ◌==◌}
use mathlib.Core.List.{Memᴰ}
use Rattle.net.specs.declared.Block.{Block}
use Rattle.net.specs.declared.Came.{Came}
use Rattle.net.specs.declared.Entry.TheVariants.{Link}
use Rattle.net.specs.Net.{Net, Good, Leads, channels}
use Rattle.machine.specs.Round.{State, Event, Enter, Round, Orderly, after, round}
use Rattle.machine.specs.Waits.{wait}

-- after every script on every good net, of blocks for doors and places that are there
abbrev pub Always : (Net → List Event → Type 0) → Type 0
Always P = (z : Net) → Good z → (vs : List Event) → Orderly z vs → P z vs

-- No store is ever overfilled.
abbrev pub FitsAfter : Net → List Event → Type 0
FitsAfter z vs = (e : ℕ) → e < z.links → length ((after z vs).queue e) ≤ z.store

abbrev pub Fits : Type 0
Fits = Always FitsAfter

-- The credits counted at the near end are right: with what stands in the store they make up its size.
abbrev pub CountRightAfter : Net → List Event → Type 0
CountRightAfter z vs = (e : ℕ) → e < z.links → (after z vs).free e + length ((after z vs).queue e) ≡ z.store

abbrev pub CountRight : Type 0
CountRight = Always CountRightAfter

-- how many pass a test
unfoldable pub count : {A : Type 0} → (A → Bool) → List A → ℕ
count f [] = 0
count f (x ∷ xs) = cond (f x) 1 0 + count f xs

-- how many in the channels below c pass a test
unfoldable pub held : (Block → Bool) → (ℕ → List Block) → ℕ → ℕ
held f q zero = 0
held f q (suc c) = count f (q c) + held f q c

-- the blocks that a script lets in
unfoldable pub entered : List Event → List Block
entered [] = []
entered (Enter b ∷ vs) = b ∷ entered vs
entered (Round ∷ vs) = entered vs

unfoldable pub blocks : List Came → List Block
blocks [] = []
blocks (k ∷ ks) = k.block ∷ blocks ks

-- Nothing is lost, doubled or changed: of every test, what stands in channels and what came are together what was let in.
abbrev pub ConservedAfter : Net → List Event → Type 0
ConservedAfter z vs =
    (f : Block → Bool) → held f (after z vs).queue (channels z) + count f (blocks (after z vs).came) ≡ count f (entered vs)

abbrev pub Conserved : Type 0
Conserved = Always ConservedAfter

-- the blocks of one door for one place
unfoldable pub between : ℕ → ℕ → List Block → List Block
between d p [] = []
between d p (b ∷ bs) = cond (b.door == d && b.place == p) (b ∷ between d p bs) (between d p bs)

-- In order: of the blocks of one door for one place, those that came are a first part of those let in.
abbrev pub InOrderAfter : Net → List Event → Type 0
InOrderAfter z vs = (d p : ℕ) → (bs : List Block) × (between d p (blocks (after z vs).came) ++ bs ≡ between d p (entered vs))

abbrev pub InOrder : Type 0
InOrder = Always InOrderAfter

-- At its place: where a block's door leads to its place, the channel from which it was handed over ends there.
abbrev pub AtPlaceAfter : Net → List Event → Type 0
AtPlaceAfter z vs =
    (k : Came) → Memᴰ k (after z vs).came → Leads z k.block.place (z.links + k.block.door) → z.ends k.channel ≡ k.block.place

abbrev pub AtPlace : Type 0
AtPlace = Always AtPlaceAfter

-- From s to t each block moved over at most one link: a channel lost a first part of what stood in it and got at most one block,
-- which is of what another channel lost, and which the table sends over this link.
pub record OneEach (z : Net) (s t : State) : Type 0 where
  pub gone : ℕ → List Block
  pub kept : ℕ → List Block
  pub new : ℕ → List Block
  pub before : (c : ℕ) → s.queue c ≡ gone c ++ kept c
  pub afterwards : (c : ℕ) → t.queue c ≡ kept c ++ new c
  pub one : (c : ℕ) → length (new c) ≤ 1
  pub source : (e : ℕ) (b : Block) → Memᴰ b (new e) → (c : ℕ) × (c < channels z) × (Memᴰ b (gone c)) × (z.next c b.place ≡ Link e)

abbrev pub OneLinkAfter : Net → List Event → Type 0
OneLinkAfter z vs = OneEach z (after z vs) (round z (after z vs))

abbrev pub OneLink : Type 0
OneLink = Always OneLinkAfter

-- It never stands still: as long as anything is under way, some channel has less after the next round.
abbrev pub MovesAfter : Net → List Event → Type 0
MovesAfter z vs =
    (c : ℕ) → c < channels z → 0 < length ((after z vs).queue c) →
    (e : ℕ) × (e < channels z) × (length ((round z (after z vs)).queue e) < length ((after z vs).queue e))

abbrev pub Moves : Type 0
Moves = Always MovesAfter

-- b stands in the queue with i others before it
abbrev pub Stands : Block → ℕ → List Block → Type 0
Stands b i q = (us : List Block) × (ws : List Block) × (q ≡ us ++ (b ∷ ws)) × (length us ≡ i)

unfoldable pub rounds : List Event → ℕ
rounds [] = 0
rounds (Enter b ∷ vs) = rounds vs
rounds (Round ∷ vs) = suc (rounds vs)

-- b has come between the two scripts' ends
abbrev pub ComesIn : Net → List Event → List Event → Block → Type 0
ComesIn z before later b = (ks : List Came) × ((after z (before ++ later)).came ≡ (after z before).came ++ ks) × (Memᴰ b (blocks ks))

-- A block that stands anywhere, with i others before it, has come after as many rounds as its wait, whatever is let in meanwhile.
abbrev pub WaitsAfter : Net → List Event → Type 0
WaitsAfter z vs =
    (later : List Event) → Orderly z later → (c i : ℕ) (b : Block) → c < channels z →
    Stands b i ((after z vs).queue c) → wait z i c b.place ≤ rounds later → ComesIn z vs later b

abbrev pub Waits : Type 0
Waits = Always WaitsAfter

-- The same from the moment at which it is let in, with all that waits at its door then before it.
abbrev pub EntersAfter : Net → List Event → Type 0
EntersAfter z vs =
    (later : List Event) (b : Block) → Orderly z (Enter b ∷ later) →
    wait z (length ((after z vs).queue (z.links + b.door))) (z.links + b.door) b.place ≤ rounds later →
    ComesIn z vs (Enter b ∷ later) b

abbrev pub Enters : Type 0
Enters = Always EntersAfter

-- All of it after a script.
pub record Promised (z : Net) (vs : List Event) : Type 0 where
  pub fits : FitsAfter z vs
  pub count_right : CountRightAfter z vs
  pub conserved : ConservedAfter z vs
  pub in_order : InOrderAfter z vs
  pub at_place : AtPlaceAfter z vs
  pub one_link : OneLinkAfter z vs
  pub moves : MovesAfter z vs
  pub waits : WaitsAfter z vs
  pub enters : EntersAfter z vs

-- The whole promise.
abbrev pub Main : Type 0
Main = Always Promised

-- A state that some script came to.
abbrev pub Past : Net → State → Type 0
Past z s = (vs : List Event) × Orderly z vs × (s ≡ after z vs)

-- What is kept of a state: a script came to it, and after every script that comes to it the whole promise holds.
abbrev pub Kept : Net → State → Type 0
Kept z s = ∥ Past z s ∥₁ × ((vs : List Event) → Orderly z vs → s ≡ after z vs → Promised z vs)
