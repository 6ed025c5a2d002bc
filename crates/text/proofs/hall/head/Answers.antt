use Rattle.std.proofs.Common.{ℕ, ◌++◌, vec_items, vec_len, string_bytes, codes, ap, ◌∙◌, refl, rules}
use Rattle.std.proofs.lemmas.Iterator.{YieldsList-from_slice}
use Rattle.std.proofs.lemmas.Result.{IfOk-weaker}
use Rattle.report.specs.Lines.{head_line, root_line}
use Rattle.text.specs.Texts.{each}
use Rattle.text.specs.Laid.{level_one}
use Rattle.text.proofs.Chains.{numbered_written}
use Rattle.text.proofs.Eachs.{three}
use Rattle.text.proofs.hall.head.Goals as goal

pub returns : goal.returns
returns c =
    let h = c.args.hall.now in
    let s = string_bytes c.args.text.now in
    IfOk-weaker c.write_each.result _ _
    (λ _ w. three s (string_bytes c.writeln.new.self) (string_bytes c.writeln-2.new.self) (string_bytes c.write_each.new.text)
    (head_line h.list.switches (vec_len h.list.cables) h.list.room ++ codes "\n") (root_line h.tree.root ++ codes "\n") (each level_one 0 (vec_items h.tree.levels))
    (c.in_ok-writeln.ensures.bytes ∙ ap (λ (n : ℕ). s ++ (head_line h.list.switches n h.list.room ++ codes "\n")) c.len.ensures)
    c.in_ok-writeln-2.ensures.bytes
    (numbered_written _ level_one w (YieldsList-from_slice (vec_items h.tree.levels) (search rules)) (search rules) c.map.ensures.closure (λ x. refl) (λ x y q e. search rules)))
    c.write_each.ensures
