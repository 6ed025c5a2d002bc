use Rattle.std.proofs.Common.{ℕ, List, ◌++◌, ap, ◌∙◌, refl, rules}
use Rattle.std.proofs.lemmas.Iterator.{YieldsList-from_slice}
use Rattle.text.specs.Texts.{each, ranked}
use Rattle.text.proofs.Chains.{numbered_written}
use Rattle.text.proofs.rings.ranks_text.Goals as goal

pub returns : goal.returns
returns c =
    numbered_written _ ranked c.in_ok-write_each.ensures (YieldsList-from_slice c.args.ranks.now (search rules)) (search rules) c.map.ensures.closure (λ x. refl) (λ x y q e. search rules)
    ∙ ap (λ (x : List ℕ). x ++ each ranked 0 c.args.ranks.now) c.in_ok-text.ensures.ok
