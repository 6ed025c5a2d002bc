-- The net that a layout describes, and which layouts are taken. Assumes nothing.
use Rattle.std.specs.Prelude.{◌≡◌, ℕ, ◌+◌, ◌-◌, ◌*◌, ◌<◌, ◌≤◌, Bool, true, false, cond, ◌&&◌, List, vec_items, vec_len, nat_lt, slice_index, slice_index_or}
use Rattle.net.specs.declared.Entry.{Entry}
use Rattle.net.specs.declared.Entry.TheVariants.{Here, Link}
use Rattle.net.specs.Net.{Net}
use Rattle.net.specs.declared.layout.Layout.{Layout}

-- what a table of rows of n entries says for channel c and place p; outside of it: here
abbrev pub entry_at : List Entry → ℕ → ℕ → ℕ → Entry
entry_at es n c p = cond (nat_lt p n) (slice_index_or es (c * n + p) Here) Here

abbrev pub net_of : Layout → Net
net_of l = record {
  links = l.links;
  doors = l.doors;
  places = l.places;
  store = l.room;
  next = λ c p. entry_at (vec_items l.table) l.places c p;
  rank = λ c. slice_index (vec_items l.ranks) c;
  ends = λ c. cond (nat_lt c l.links) (slice_index (vec_items l.ends) c) (c - l.links);
}

-- Sizes that can be served: channels and places have numbers, a store holds 1 to 32, and the lists are as long as they have to be.
pub record Sized (l : Layout) : Type 0 where
  pub few : l.links + l.doors ≤ 65535
  pub doors : l.doors ≤ 256
  pub places : l.places ≤ 256
  pub some : 0 < l.room
  pub most : l.room ≤ 32
  pub table : vec_len l.table ≡ (l.links + l.doors) * l.places
  pub ranks : vec_len l.ranks ≡ l.links + l.doors
  pub ends : vec_len l.ends ≡ l.links

-- an entry is a link, and ranks rise from channel c to it
abbrev pub rises_to : Layout → ℕ → Entry → Bool
rises_to l c Here = true
rises_to l c (Link e) = nat_lt e l.links && nat_lt (slice_index (vec_items l.ranks) c) (slice_index (vec_items l.ranks) e)

abbrev pub rises_at : Layout → ℕ → ℕ → Bool
rises_at l c p = rises_to l c (entry_at (vec_items l.table) l.places c p)

-- in the row of channel c, p is the first place whose entry does not rise
pub record FirstFall (l : Layout) (c p : ℕ) : Type 0 where
  pub place : p < l.places
  pub falls : rises_at l c p ≡ false
  pub first : (q : ℕ) → q < p → rises_at l c q ≡ true

-- and c is the first channel with such a place
pub record FirstOfAll (l : Layout) (c p : ℕ) : Type 0 where
  pub channel : c < l.links + l.doors
  pub here : FirstFall l c p
  pub earlier : (d q : ℕ) → d < c → rises_at l d q ≡ true

abbrev pub AllRise : Layout → Type 0
AllRise l = (c p : ℕ) → rises_at l c p ≡ true
