use Rattle.std.proofs.Common.{ℕ, List, ◌++◌, string_bytes, codes, ap, ◌∙◌, lit<, refl, rules}
use Rattle.std.proofs.lemmas.Iterator.{YieldsList-from_slice}
use Rattle.text.specs.Texts.{each, numbered}
use Rattle.text.proofs.Chains.{each_written}
use Rattle.text.proofs.rings.ring_text.Goals as goal

pub returns : goal.returns
returns c =
    let e = c.in_ok-push.ensures in
    let u = string_bytes c.write_each.new.text in
    let w = each_written _ (numbered 0) c.in_ok-write_each.ensures (YieldsList-from_slice c.args.members.now (search rules)) c.map.ensures.closure (λ x. refl) (λ x y q e. search rules) in
    e.bytes ∙ ap (λ (x : List ℕ). u ++ x) (e.ascii (lit< tt)) ∙ ap (λ (x : List ℕ). x ++ codes "\n") (w ∙ ap (λ (x : List ℕ). x ++ each numbered 0 c.args.members.now) c.in_ok-text.ensures.ok)
