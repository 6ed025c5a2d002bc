use Rattle.std.proofs.Common.{◌≡◌, ℕ, ◌<◌, List, ◌++◌, length, string_bytes, codes, sym, refl, ap, ◌∙◌, append-nil, arith, lit<, rules}
use Rattle.report.specs.Lines.{store_head}
use Rattle.std.specs.Iterator.Adapters.{filter_map_callee}
use Rattle.store.specs.Store.{items}
use Rattle.text.specs.Plays.{block_one}
use Rattle.text.specs.Texts.{each, none_word}
use Rattle.text.proofs.Chains.{YieldsList-from_gets, each_written}
use Rattle.text.proofs.Eachs.{four, none_gone, none_there}
use Rattle.text.proofs.script.store.Goals as goal
use Rattle.text.proofs.script.store.Goals.{then-len-eq0+in_ok-write-2, else-len-eq0}

pub returns : goal.returns
returns c =
    let v = c.args.link in
    let bs = items v.store.now in
    let u = string_bytes c.write_each.new.text in
    let e = c.in_ok-push.ensures in
    let blocks = each_written _ (block_one 0) c.in_ok-write_each.ensures
    (YieldsList-from_gets _ bs (search rules) (ap filter_map_callee c.map.ensures.source ∙ c.filter_map-blocks.ensures.closure) (λ k r q e. search rules))
    c.map.ensures.closure (λ x. refl) (λ x y q k. search rules) in
    let none : string_bytes c.if-len-eq0.text ≡ u ++ none_word bs =
    elim c.if-len-eq0.branch [
      | then-len-eq0+in_ok-write-2 w ↦
          let z : length bs ≡ 0 = omega arith in
          ap string_bytes w.text-is ∙ w.in_ok-write-2.ensures.bytes ∙ ap (λ (x : List ℕ). u ++ x) (sym (none_there bs z))
      | else-len-eq0 w ↦
          let z : 0 < length bs = omega arith in
          ap string_bytes w.text-is ∙ sym (ap (λ (x : List ℕ). u ++ x) (none_gone bs z) ∙ append-nil u)
    ] in
    four (string_bytes c.args.text.now) (string_bytes c.write.new.self) u (string_bytes c.if-len-eq0.text) (string_bytes c.push.new.self)
    (store_head c.args.e v.free v.turn) (each block_one 0 bs) (none_word bs) (codes "\n")
    c.in_ok-write.ensures.bytes blocks none
    (e.bytes ∙ ap (λ (x : List ℕ). string_bytes c.if-len-eq0.text ++ x) (e.ascii (lit< tt)))
