use Rattle.std.proofs.Common.{◌≡◌, ℕ, ◌<◌, List, ◌++◌, length, string_bytes, codes, sym, refl, ap, ◌∙◌, append-nil, arith, lit<, rules}
use borrow.Author.Tests.{tests}
use Rattle.std.proofs.lemmas.Iterator.{YieldsList-from_slice}
use Rattle.std.proofs.lemmas.Iterator.Adapters.{serves_from_places}
use Rattle.std.proofs.lemmas.List.{get_or_default, get_or_read, get_or_past}
use Rattle.text.specs.Laid.{end_one}
use Rattle.text.specs.Texts.{each, none_word, numbered}
use Rattle.text.proofs.Chains.{each_written}
use Rattle.text.proofs.Eachs.{four, none_gone, none_there, two}
use Rattle.text.proofs.hall.along.Goals as goal
use Rattle.text.proofs.hall.along.Goals.{then-is_empty+in_ok-write-2, else-is_empty}

pub write_each-requires-clause-can : goal.write_each-requires-clause-can
write_each-requires-clause-can c = (
  tt,
  serves_from_places (YieldsList-from_slice c.args.road.now (search rules)) (λ x q k. search rules)
      (λ x k l e _ _ _ _ _ _ _ _.
      let h = c.requires k l in
      let n = c.as_slice-ends.ensures.len in
      let i = e ∙ get_or_default c.args.road.now k x.now 0 l in
      let f : length c.map.result.f.0.now ≡ length c.as_slice-ends.result.now = search rules in
      omega (arith, h, i)),
)

pub returns : goal.returns
returns c =
    let es = c.args.road.now in
    let s = string_bytes c.args.text.now in
    let t = string_bytes c.write_each.new.text in
    let u = string_bytes c.write.new.self in
    let v = string_bytes c.if-is_empty.text in
    let x = string_bytes c.write_each-2.new.text in
    let e = c.in_ok-push.ensures in
    let none : v ≡ u ++ none_word es =
    elim c.if-is_empty.branch [
      | then-is_empty+in_ok-write-2 w ↦
          let z : length es ≡ 0 = search (rules, tests) in
          ap string_bytes w.text-is ∙ w.in_ok-write-2.ensures.bytes ∙ ap (λ (y : List ℕ). u ++ y) (sym (none_there es z))
      | else-is_empty w ↦
          let z : 0 < length es = search (rules, tests) in
          ap string_bytes w.text-is ∙ sym (ap (λ (y : List ℕ). u ++ y) (none_gone es z) ∙ append-nil u)
    ] in
    two s x (string_bytes c.push.new.self) (((each (end_one c.args.hall.now) 0 es ++ codes " links") ++ none_word es) ++ each numbered 0 es) (codes "\n")
    (four s t u v x (each (end_one c.args.hall.now) 0 es) (codes " links") (none_word es) (each numbered 0 es)
    (each_written _ (end_one c.args.hall.now 0) c.in_ok-write_each.ensures (YieldsList-from_slice es (search rules)) c.map.ensures.closure (λ y. refl) (λ y r q k. search (rules, get_or_read, get_or_past)))
    c.in_ok-write.ensures.bytes none
    (each_written _ (numbered 0) c.in_ok-write_each-2.ensures (YieldsList-from_slice es (search rules)) c.map-2.ensures.closure (λ y. refl) (λ y r q k. search rules)))
    (e.bytes ∙ ap (λ (y : List ℕ). x ++ y) (e.ascii (lit< tt)))
