use Rattle.std.proofs.Common.{◌≡◌, ℕ, List, ◌++◌, length, get_or, vec_items, vec_len, string_bytes, codes, sym, refl, ap, ◌∙◌, arith, rules}
use Rattle.std.specs.List.{zip}
use Rattle.std.proofs.lemmas.Iterator.{YieldsList-from_slice, YieldsList-from_zip}
use Rattle.std.proofs.lemmas.Result.{IfOk-weaker}
use Rattle.std.proofs.lemmas.Slice.Zip.{get_or-zip, length-zip}
use Rattle.graph.specs.declared.link.Link.{Link}
use Rattle.graph.specs.Graph.{no_link}
use Rattle.plan.specs.declared.hall.Hall.{Hall}
use Rattle.report.specs.Lines.{link_line}
use Rattle.tree.specs.declared.way.Way.{Way}
use Rattle.tree.specs.Listed.{no_way}
use Rattle.tree.specs.Planted.{graph_in, rank_in, up_in}
use Rattle.tree.proofs.Growing.{from_in, links_in, to_in, ways_in}
use Rattle.text.specs.Laid.{link_one, links_text, patience_in}
use Rattle.text.specs.Texts.{each}
use Rattle.text.proofs.Chains.{numbered_written}
use Rattle.text.proofs.Eachs.{each_below}
use Rattle.text.proofs.hall.links.Goals as goal

-- the line of a link beside its way
abbrev pair_line : Hall → ℕ → Link × Way → List ℕ
pair_line h c (l, w) = link_line c l.from l.to w.up w.rank (patience_in h c) ++ codes "\n"

-- there is a way for each link, so no link is left out
pairs : (h : Hall) → each (pair_line h) 0 (zip (vec_items h.tree.cabling.links) (vec_items h.tree.ways)) ≡ links_text h
pairs h =
    let t = h.tree in
    let ls = vec_items t.cabling.links in
    let ws = vec_items t.ways in
    let n : vec_len t.cabling.links ≡ length ls = t.cabling.links.ok.0 in
    let m : vec_len t.ways ≡ length ws = t.ways.ok.0 in
    let a = links_in t in
    let b = ways_in t in
    let z = length-zip ls ws in
    each_below (pair_line h) (link_one h) (no_link, no_way) (vec_len t.cabling.links) (zip ls ws) (omega (arith, z))
    (λ k l.
    let line : ℕ → ℕ → List ℕ = λ x y. link_line k x y (up_in t k) (rank_in t k) (patience_in h k) ++ codes "\n" in
    ap (pair_line h k) (get_or-zip ls ws k (no_link, no_way) (omega arith) (omega arith))
    ∙ ap (λ (x : ℕ). line x (get_or ls k no_link).to) (sym (from_in t k)) ∙ ap (line ((graph_in t).from k)) (sym (to_in t k)))

pub returns : goal.returns
returns c =
    let h = c.args.hall.now in
    IfOk-weaker c.write_each.result _ _
    (λ _ w. numbered_written _ (pair_line h) w (YieldsList-from_zip (YieldsList-from_slice (vec_items h.tree.cabling.links) (search rules)) (YieldsList-from_slice (vec_items h.tree.ways) (search rules))) (search rules) c.map.ensures.closure (λ x. refl) (λ x y q e. search rules)
    ∙ ap (λ (x : List ℕ). string_bytes c.args.text.now ++ x) (pairs h))
    c.write_each.ensures
