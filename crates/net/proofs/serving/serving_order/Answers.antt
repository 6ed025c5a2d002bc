use Rattle.std.proofs.Common.{◌≡◌, length, vec_items, ap, ◌∙◌, arith}
use Rattle.net.specs.Order.{order}
use Rattle.net.specs.Position.{rank_of}
use Rattle.net.proofs.Positions.{position_fits}
use Rattle.net.proofs.Ranked.{in_order_of_rank}
use Rattle.net.proofs.Steps.{order_none, order_more, order_serves, order_known}
use Rattle.net.proofs.serving.serving_order.Goals as goal

pub loop-link-init : goal.loop-link-init
loop-link-init c = c.in_ok-served.ensures.items ∙ order_none (rank_of c.args.ranks.now)

pub position_of-at-requires : goal.position_of-at-requires
position_of-at-requires c =
    record {
      ranked = omega arith;
      known = order_known (rank_of c.args.ranks.now) c.loop-link.link (length c.args.ranks.now) _ (c.deref.ensures.value ∙ c.loop-link.invariant) (omega arith);
    }

pub insert-requires : goal.insert-requires
insert-requires c =
    let q = c.position_of-at.ensures in
    let f = position_fits (rank_of c.args.ranks.now) c.loop-link.link c.deref.result.now in
    omega (arith, c.deref.ensures.len)

pub loop-link-preserved : goal.loop-link-preserved
loop-link-preserved c =
    order_more (rank_of c.args.ranks.now) c.loop-link.link c.position_of-at.result c.deref.result.now (vec_items c.loop-link.served) (vec_items c.insert.new.self) c.loop-link.invariant c.deref.ensures.value c.position_of-at.ensures c.in_ok-insert.ensures.items

pub returns-then-ranks-links-clause-law : goal.returns-then-ranks-links-clause-law
returns-then-ranks-links-clause-law c = in_order_of_rank

pub returns-in_err-served-clause-law : goal.returns-in_err-served-clause-law
returns-in_err-served-clause-law c = in_order_of_rank

pub returns-in_err-insert-clause-law : goal.returns-in_err-insert-clause-law
returns-in_err-insert-clause-law c = in_order_of_rank

pub returns-clause-serves : goal.returns-clause-serves
returns-clause-serves c =
    let e : c.loop-link.link ≡ c.args.links = omega arith in
    order_serves (rank_of c.args.ranks.now) c.args.links _ (c.loop-link.invariant ∙ ap (order (rank_of c.args.ranks.now)) e)

pub returns-clause-law : goal.returns-clause-law
returns-clause-law c = in_order_of_rank
