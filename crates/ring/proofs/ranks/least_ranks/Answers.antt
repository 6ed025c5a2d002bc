-- Each round brings the sum nearer to its bound, and after the last they are the least ranks. Assumes nothing.
use Rattle.std.proofs.Common.{◌≡◌, List, ℕ, length, get_or, sum, sym, ap, subst, arith}
use Rattle.std.proofs.lemmas.List.{with_items_is}
use Rattle.ring.specs.Ranks.{Below, LeastRanks, Ready}
use Rattle.ring.specs.Table.{Hands}
use Rattle.ring.proofs.Rounds.{least_after, ready_more, round_less}
use Rattle.ring.proofs.ranks.least_ranks.Goals as goal

pub loop-smaller : goal.loop-smaller
loop-smaller c =
    let t = c.args.table.now in
    let old = c.deref_mut.result.now in
    let new = c.raise_all.new.ranks in
    let z = c.loop.invariant.size in
    let d = c.deref_mut.ensures.len in
    let l : length new ≡ c.loop.ranks.len = omega arith in
    let k : length new ≡ t.channels = omega arith in
    let r : Ready t.entries.now t.channels t.places old = subst (λ (xs : List ℕ). Ready t.entries.now t.channels t.places xs) (sym c.deref_mut.ensures.value) c.loop.invariant in
    let S = Below t.entries.now t.places t.channels in
    let less = round_less t.entries.now t.channels t.places S old new c.raise_all.result t.sized
    (ready_more t.entries.now t.channels t.places S old old new c.raise_all.result r k c.raise_all.ensures) c.loop-test.true c.raise_all.ensures in
    let a = ap sum (with_items_is c.loop.ranks new l) in
    let b = ap sum c.deref_mut.ensures.value in
    omega arith

pub returns : goal.returns
returns c =
    let t = c.args.table.now in
    let old = c.deref_mut.result.now in
    let new = c.raise_all.new.ranks in
    let z = c.loop.invariant.size in
    let d = c.deref_mut.ensures.len in
    let o = c.loop.ranks.ok.0 in
    let l : length new ≡ c.loop.ranks.len = omega arith in (
      omega arith,
      subst (λ (xs : List ℕ). LeastRanks (Hands t.entries.now t.places) (λ k. get_or xs k 0)) (sym (with_items_is c.loop.ranks new l))
          (least_after t.entries.now t.channels t.places old new c.raise_all.result t.sized c.loop-test.false c.raise_all.ensures),
    )
