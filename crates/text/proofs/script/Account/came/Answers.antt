use Rattle.std.proofs.Common.{List, ◌++◌, length, drop, string_bytes, refl, ap, ◌∙◌, rules}
use Rattle.std.proofs.lemmas.Iterator.{YieldsList-from_slice}
use Rattle.std.proofs.lemmas.Iterator.Adapters.{YieldsList-from_skip}
use Rattle.net.specs.declared.Came.{Came}
use Rattle.text.specs.Plays.{came_one, came_text}
use Rattle.text.proofs.Chains.{each_written}
use Rattle.text.proofs.script.Account.came.Goals as goal

pub returns : goal.returns
returns c =
    let old = c.args.self.now in
    let cs = c.came-came.result.now in (
      each_written _ (came_one 0) c.in_ok-write_each.ensures (YieldsList-from_skip old.told (YieldsList-from_slice cs (search rules)) (search rules)) c.map.ensures.closure (λ x. refl) (λ x y q e. search rules)
          ∙ ap (λ (xs : List Came). string_bytes old.text ++ came_text (drop old.told xs)) c.came-came.ensures,
      ap length c.came-came.ensures,
    )
