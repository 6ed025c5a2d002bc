-- The texts of a hall that is laid, as lists of bytes. Assumes nothing.
use Rattle.std.specs.Prelude.{ℕ, ◌+◌, List, ◌++◌, vec_items, vec_len, codes, decimal, slice_index}
use Rattle.net.specs.Layout.{net_of}
use Rattle.plan.specs.declared.hall.Hall.{Hall}
use Rattle.tree.specs.Planted.{graph_in, rank_in, up_in}
use Rattle.report.specs.Lines.{door_line, entry_word, head_line, level_line, link_line, road_head, root_line, table_head}
use Rattle.waits.specs.Laws.{Road, stores}
use Rattle.text.specs.Texts.{below, each, none_word, numbered}

-- the line of a switch's level
abbrev pub level_one : ℕ → ℕ → List ℕ
level_one s l = level_line s l ++ codes "\n"

-- the size of a hall, its root, and the level of each switch
abbrev pub head_text : Hall → List ℕ
head_text h =
    ((head_line h.list.switches (vec_len h.list.cables) h.list.room ++ codes "\n") ++ (root_line h.tree.root ++ codes "\n")) ++ each level_one 0 (vec_items h.tree.levels)

-- the patience of a channel as the bounds hold it, which `waits` proves to be the net's
abbrev pub patience_in : Hall → ℕ → ℕ
patience_in h c = slice_index (vec_items h.bounds.found) c

-- the line of a link: its ends and its way in the tree
abbrev pub link_one : Hall → ℕ → List ℕ
link_one h c = link_line c ((graph_in h.tree).from c) ((graph_in h.tree).to c) (up_in h.tree c) (rank_in h.tree c) (patience_in h c) ++ codes "\n"

-- a line for each link
abbrev pub links_text : Hall → List ℕ
links_text h = below (link_one h) (vec_len h.tree.cabling.links)

-- the line of a door, which is a channel after the links
abbrev pub door_one : Hall → ℕ → List ℕ
door_one h s = door_line (h.bounds.plan.layout.links + s) s (patience_in h (h.bounds.plan.layout.links + s)) ++ codes "\n"

-- a line for each door
abbrev pub doors_text : Hall → List ℕ
doors_text h = below (door_one h) h.bounds.plan.layout.doors

-- what the table says for a channel and a place
abbrev pub entry_one : Hall → ℕ → ℕ → List ℕ
entry_one h c p = entry_word ((net_of h.bounds.plan.layout).next c p)

-- the row of a channel
abbrev pub row_text : Hall → ℕ → List ℕ
row_text h c = (table_head c ++ below (entry_one h c) h.bounds.plan.layout.places) ++ codes "\n"

-- a row for each channel
abbrev pub table_text : Hall → List ℕ
table_text h = below (row_text h) (h.bounds.plan.layout.links + h.bounds.plan.layout.doors)

-- the switch at which a link ends, after a space
abbrev pub end_one : Hall → ℕ → ℕ → List ℕ
end_one h k e = codes " " ++ decimal (slice_index (vec_items h.bounds.plan.layout.ends) e)

-- the rest of a road's line: the switches at which its links end, and the links
abbrev pub along_text : Hall → List ℕ → List ℕ
along_text h es = (((each (end_one h) 0 es ++ codes " links") ++ none_word es) ++ each numbered 0 es) ++ codes "\n"

-- the wait from door d along links: the door's patience, and what full stores take
abbrev pub wait_along : Hall → ℕ → List ℕ → ℕ
wait_along h d es = patience_in h (h.bounds.plan.layout.links + d) + stores (net_of h.bounds.plan.layout) es

-- the line of the road from door d to place p, whose links are es
abbrev pub road_text : Hall → ℕ → ℕ → List ℕ → List ℕ
road_text h d p es = road_head d p (wait_along h d es) ++ along_text h es

-- the links that the table of a hall walks from door d for place p
abbrev pub Way : Hall → ℕ → ℕ → List ℕ → Type 0
Way h d p es = Road (net_of h.bounds.plan.layout) p (h.bounds.plan.layout.links + d) es

-- the links that the table walks from each door for each place
abbrev pub Ways : Hall → (ℕ → ℕ → List ℕ) → Type 0
Ways h way = (d p : ℕ) → Way h d p (way d p)

-- the line of the road from a door to a place
abbrev pub road_one : Hall → (ℕ → ℕ → List ℕ) → ℕ → ℕ → List ℕ
road_one h way d p = road_text h d p (way d p)

-- the roads from a door to all places
abbrev pub roads_text : Hall → (ℕ → ℕ → List ℕ) → ℕ → List ℕ
roads_text h way d = below (road_one h way d) h.bounds.plan.layout.places

-- all lines of a hall
abbrev pub text_of_hall : Hall → (ℕ → ℕ → List ℕ) → List ℕ
text_of_hall h way = (((head_text h ++ links_text h) ++ doors_text h) ++ table_text h) ++ below (roads_text h way) h.bounds.plan.layout.doors
