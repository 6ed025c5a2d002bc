use Rattle.std.proofs.Common.{◌≡◌, vec_items}
use Rattle.net.specs.Order.{order}
use Rattle.net.specs.Position.{rank_of}
use Rattle.net.proofs.serving.serving_order.Given as goal

-- those so far are in order
abbrev pub invariant-loop-link : goal.invariant-loop-link
invariant-loop-link l = vec_items l.served ≡ order (rank_of l.ranks) l.link
