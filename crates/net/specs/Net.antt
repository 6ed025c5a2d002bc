-- A net: channels, where blocks go from them, and what makes it good. Assumes nothing.
use Rattle.std.specs.Prelude.{◌≡◌, ℕ, ◌+◌, ◌<◌, Bool, true, false, ◌==◌}
use Rattle.net.specs.declared.Entry.{Entry}
use Rattle.net.specs.declared.Entry.TheVariants.{Here, Link}

-- Channels below `links` are links, those from there on are doors: door d is channel links + d.
-- store: how many blocks the store at a link's far end can hold; next c p: where a block for place p goes on
-- from channel c; ends c: the switch at which channel c ends.
pub record Net : Type 0 where
  pub links : ℕ
  pub doors : ℕ
  pub places : ℕ
  pub store : ℕ
  pub next : ℕ → ℕ → Entry
  pub rank : ℕ → ℕ
  pub ends : ℕ → ℕ

abbrev pub channels : Net → ℕ
channels z = z.links + z.doors

-- A net is good if a store holds something, entries lead to links only, and ranks rise along every entry.
pub record Good (z : Net) : Type 0 where
  pub some : 0 < z.store
  pub rises : (c p e : ℕ) → z.next c p ≡ Link e → (e < z.links) × (z.rank c < z.rank e)

abbrev pub is_here : Entry → Bool
is_here Here = true
is_here (Link e) = false

abbrev pub is_to : ℕ → Entry → Bool
is_to e Here = false
is_to e (Link f) = e == f

-- Going by the table from channel c, a block for place p comes to Here at a channel that ends at p.
pub data Leads (z : Net) (p : ℕ) : ℕ → Type 0 where
  there : {c : ℕ} → z.next c p ≡ Here → z.ends c ≡ p → Leads z p c
  along : {c e : ℕ} → z.next c p ≡ Link e → Leads z p e → Leads z p c
