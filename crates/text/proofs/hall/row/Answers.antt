use Rattle.std.proofs.Common.{ℕ, List, ◌++◌, string_bytes, codes, ap, ◌∙◌, lit<, refl, rules}
use Rattle.report.specs.Lines.{table_head}
use Rattle.text.specs.Texts.{below}
use Rattle.text.specs.Laid.{entry_one}
use Rattle.text.proofs.Chains.{below_written}
use Rattle.text.proofs.Eachs.{three}
use Rattle.text.proofs.hall.row.Goals as goal

pub returns : goal.returns
returns c =
    let h = c.args.hall.now in
    let u = string_bytes c.write_each.new.text in
    let e = c.in_ok-push.ensures in
    three (string_bytes c.args.text.now) (string_bytes c.write.new.self) u (string_bytes c.push.new.self)
    (table_head c.args.channel) (below (entry_one h c.args.channel) h.bounds.plan.layout.places) (codes "\n")
    c.in_ok-write.ensures.bytes
    (below_written _ (entry_one h c.args.channel) h.bounds.plan.layout.places c.in_ok-write_each.ensures (search rules) c.map.ensures.closure (λ x. refl) (λ k x q e. search rules))
    (e.bytes ∙ ap (λ (x : List ℕ). u ++ x) (e.ascii (lit< tt)))
