use Rattle.std.proofs.Common.{ℕ, List, ◌++◌, string_bytes, ap, ◌∙◌}
use Rattle.text.specs.Laid.{doors_text, head_text, links_text, roads_text, table_text}
use Rattle.text.proofs.Eachs.{below_starts, below_grows, four}
use Rattle.text.proofs.hall.hall_text.Goals as goal

pub loop-from-init : goal.loop-from-init
loop-from-init c way ways =
    let h = c.args.hall.now in
    below_starts (roads_text h way) (((head_text h ++ links_text h) ++ doors_text h) ++ table_text h) (string_bytes c.table.new.text)
    (four (string_bytes c.new-text.result) (string_bytes c.head.new.text) (string_bytes c.links.new.text) (string_bytes c.doors.new.text) (string_bytes c.table.new.text)
    (head_text h) (links_text h) (doors_text h) (table_text h) c.in_ok-head.ensures c.in_ok-links.ensures c.in_ok-doors.ensures c.in_ok-table.ensures
    ∙ ap (λ (x : List ℕ). x ++ (((head_text h ++ links_text h) ++ doors_text h) ++ table_text h)) c.new-text.ensures.bytes)

pub loop-from-preserved : goal.loop-from-preserved
loop-from-preserved c way ways =
    let h = c.args.hall.now in
    below_grows (roads_text h way) (((head_text h ++ links_text h) ++ doors_text h) ++ table_text h) (string_bytes c.loop-from.text) (string_bytes c.roads.new.text) c.loop-from.from (c.loop-from.invariant way ways)
    (c.in_ok-roads.ensures way ways)
