use Rattle.std.proofs.Common.{◌≡◌, ℕ, ◌<◌, List, ◌++◌, length, get_or, vec_items, vec_len, string_bytes, sym, ap, ◌∙◌, subst}
use Rattle.std.specs.Option.{IfSome}
use Rattle.net.specs.Layout.{net_of}
use Rattle.report.specs.Lines.{road_head}
use Rattle.text.specs.Laid.{Way, along_text, road_text, wait_along}
use Rattle.text.proofs.Eachs.{two}
use Rattle.text.proofs.Walks.{one_road, road_links, wait_is}
use Rattle.text.proofs.hall.road.Goals as goal

pub along-requires : goal.along-requires
along-requires c =
    let h = c.args.hall.now in
    let links = vec_items c.unwrap-links.result in
    let way : Way h c.args.from c.args.place links =
    subst (λ o. IfSome o (λ v. Way h c.args.from c.args.place (vec_items v))) c.unwrap-links.ensures c.in_ok-road.ensures.road in
    subst (λ (es : List ℕ). (i : ℕ) → i < length es → get_or es i 0 < vec_len h.bounds.plan.layout.ends) (sym c.as_slice.ensures.value) (road_links h.bounds.plan way)

pub returns : goal.returns
returns c es w =
    let h = c.args.hall.now in
    let links = vec_items c.unwrap-links.result in
    let way : Way h c.args.from c.args.place links =
    subst (λ o. IfSome o (λ v. Way h c.args.from c.args.place (vec_items v))) c.unwrap-links.ensures c.in_ok-road.ensures.road in
    let s = string_bytes c.args.text.now in
    let n : c.unwrap-wait.result ≡ wait_along h c.args.from links =
    wait_is h c.args.from c.args.place c.unwrap-wait.result links c.wait.result c.requires.door c.requires.place way c.wait.ensures c.unwrap-wait.ensures in
    let t = two s (string_bytes c.write.new.self) (string_bytes c.along.new.text) (road_head c.args.from c.args.place (wait_along h c.args.from links)) (along_text h links)
    (c.in_ok-write.ensures.bytes ∙ ap (λ (m : ℕ). s ++ road_head c.args.from c.args.place m) n)
    (c.in_ok-along.ensures ∙ ap (λ (xs : List ℕ). string_bytes c.write.new.self ++ along_text h xs) c.as_slice.ensures.value) in
    subst (λ (xs : List ℕ). string_bytes c.along.new.text ≡ s ++ road_text h c.args.from c.args.place xs) (one_road (net_of h.bounds.plan.layout) way w) t
