use Rattle.std.proofs.Common.{List, map, length, vec_items, ap, ◌∙◌}
use Rattle.graph.specs.declared.link.Link.{Link}
use Rattle.tree.specs.Listed.{way_by}
use Rattle.tree.proofs.Listed.{links_all, ways_are}
use Rattle.tree.proofs.planted.Tree.new.Goals as goal

pub ways-requires : goal.ways-requires
ways-requires c =
    links_all c.args.cabling.switches _ (vec_items c.args.cabling.links) _ c.args.cabling.linked.ends
    (ap length c.deref.ensures.value ∙ c.in_ok-levels.ensures.levelled.size) c.deref-2.ensures.value

pub invariant_of-result : goal.invariant_of-result
invariant_of-result c =
    let h = c.in_ok-levels.ensures in
    let links = vec_items c.args.cabling.links in
    record {
      inside = h.below;
      levelled = h.levelled;
      listed = c.in_ok-ways.ensures ∙ ap (λ (xs : List Link). map (way_by c.deref.result.now) xs) c.deref-2.ensures.value ∙ ap (λ ls. map (way_by ls) links) c.deref.ensures.value
          ∙ ways_are c.args.cabling.switches c.args.root links c.args.cabling.linked.ends (vec_items c.in_ok-levels.levels) h.levelled;
    }
