use Rattle.std.proofs.Common.{◌≡◌, ◌<◌, ap, ◌∙◌, subst, refl}
use Rattle.std.proofs.lemmas.Result.{err_from_is_err_and}
use Rattle.graph.specs.Graph.{Graph, graph_with}
use Rattle.graph.specs.Tree.{Joined, Lost, root}
use Rattle.graph.proofs.Links.{linked_of}
use Rattle.graph.proofs.cabling.Cabling.new.Goals as goal

pub start-requires : goal.start-requires
start-requires c = linked_of c.args.switches c.args.cables.now c.deref.result.now c.in_ok-check.ensures (c.deref.ensures.value ∙ c.in_ok-links.ensures)

pub returns-in_err-root : goal.returns-in_err-root
returns-in_err-root c =
    let n = c.args.switches in
    let e = c.in_ok-start.ensures.0 ∙ ap (graph_with n) (c.deref.ensures.value ∙ c.in_ok-links.ensures) in
    let p = err_from_is_err_and c.from_residual-in_err-root.result c.from_residual-in_err-root.ensures.1 in
    rw (p.1, p.2) (c.in_ok-check.ensures, subst (λ (g : Graph). Lost g c.in_err-root.field-0.0.lost) e c.in_err-root.ensures)

pub invariant_of-result : goal.invariant_of-result
invariant_of-result c =
    let n = c.args.switches in
    let e = c.in_ok-start.ensures.0 ∙ ap (graph_with n) c.deref.ensures.value in
    let h = subst (λ (g : Graph). (c.in_ok-root.root ≡ root g) × (c.in_ok-root.root < g.n) × Joined g) e c.in_ok-root.ensures in
    record {
      linked = linked_of n c.args.cables.now _ c.in_ok-check.ensures c.in_ok-links.ensures;
      joined = h.2;
      inside = h.1;
      center = h.0;
    }

pub returns : goal.returns
returns c =
    let n = c.args.switches in
    let l = ap (graph_with n) c.in_ok-links.ensures in
    let e = c.in_ok-start.ensures.0 ∙ ap (graph_with n) c.deref.ensures.value ∙ l in
    let h = subst (λ (g : Graph). (c.in_ok-root.root ≡ root g) × (c.in_ok-root.root < g.n) × Joined g) e c.in_ok-root.ensures in
    record { fine = c.in_ok-check.ensures; switches = refl; links = c.in_ok-links.ensures; graph = l; root = h.0; joined = h.2 }
