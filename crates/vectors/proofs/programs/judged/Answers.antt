use Rattle.std.proofs.Common.{◌≡◌, List, ap, sym, subst, string_bytes}
use Rattle.net.specs.declared.Entry.{Entry}
use Rattle.play.proofs.Mapped.{same_value}
use Rattle.ring.specs.Answer.{Told, is_ring}
use Rattle.text.specs.Texts.{text_of_verdict}
use Rattle.wire.specs.Tables.{tabled}
use Rattle.vectors.specs.Digests.{digest_of}
use Rattle.vectors.specs.Programs.{JudgedTable}
use Rattle.vectors.proofs.Runs.{in_one_piece}
use Rattle.vectors.proofs.programs.judged.Goals as goal
use Rattle.vectors.proofs.programs.judged.Goals.{in-Ring, in-Ranks}

pub returns : goal.returns
returns c =
    let t = tabled c.args.table.now in
    let v = c.in_ok-verdict.verdict in
    let d = c.after.result in
    let told : Told t.entries t.channels t.places v =
    let e = same_value _ c.find.result v c.in_ok-verdict.ensures.cases in
    let f = rw e at c.find.ensures in
    subst (λ (es : List Entry). Told es t.channels t.places v) c.as_slice.ensures.value f in
    let text : d.0 ≡ digest_of (text_of_verdict v) = in_one_piece d.0 c.new.result.0 c.as_str.result.now (string_bytes c.in_ok-text.text) (text_of_verdict v) c.after.ensures c.new.ensures c.as_str.ensures.value c.in_ok-text.ensures in
    elim c.match-verdict-2.branch [
      | in-Ring w ↦ subst (JudgedTable t d) (sym w.end-is) (record { verdict = v; kind = ap is_ring w.in-Ring.is; told = told; text = text })
      | in-Ranks w ↦ subst (JudgedTable t d) (sym w.end-is) (record { verdict = v; kind = ap is_ring w.in-Ranks.is; told = told; text = text })
    ]
