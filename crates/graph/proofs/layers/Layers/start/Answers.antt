use Rattle.std.proofs.Common.{◌≡◌, ℕ, ◌^◌, map, vec_items, vec_len, sym, ap, ◌∙◌, subst, length, arith}
use Rattle.std.specs.List.{range_with_len}
use Rattle.std.proofs.lemmas.List.FromFn.{length-map-range_with_len}
use Rattle.graph.specs.Graph.{graph_with}
use Rattle.graph.specs.Layers.{Linked}
use Rattle.graph.proofs.Layered.{reached_none}
use Rattle.graph.proofs.layers.Layers.start.Goals as goal

pub invariant_of-result : goal.invariant_of-result
invariant_of-result c =
    let e : vec_len c.in_ok-sets.sets ≡ c.args.switches =
    c.in_ok-sets.sets.ok.0 ∙ ap length c.in_ok-sets.ensures ∙ length-map-range_with_len _ 0 c.args.switches in
    record { linked = subst (λ (n : ℕ). Linked (graph_with n c.args.links.now)) (sym e) c.requires; same = (let b = c.in_ok-before.ensures.len in omega arith) }

pub returns : goal.returns
returns c =
    let e : vec_len c.in_ok-sets.sets ≡ c.args.switches =
    c.in_ok-sets.sets.ok.0 ∙ ap length c.in_ok-sets.ensures ∙ length-map-range_with_len _ 0 c.args.switches in (
      ap (λ (n : ℕ). graph_with n c.args.links.now) e,
      reached_none (graph_with (vec_len c.in_ok-sets.sets) c.args.links.now) (vec_items c.in_ok-sets.sets)
          (subst (λ (n : ℕ). vec_items c.in_ok-sets.sets ≡ map (λ s. 2 ^ s) (range_with_len 0 n)) (sym e) c.in_ok-sets.ensures),
    )
