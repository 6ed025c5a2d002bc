-- The whole promise, from its parts. Assumes nothing.
use Rattle.net.proofs.Ranked.{in_order_of_rank}
use Rattle.machine.specs.Promise.{Main}
use Rattle.machine.proofs.Counts.{fits, count_right}
use Rattle.machine.proofs.Conserved.{conserved}
use Rattle.machine.proofs.InOrder.{in_order}
use Rattle.machine.proofs.Road.{at_place}
use Rattle.machine.proofs.OneLink.{one_link}
use Rattle.machine.proofs.Motion.{moves}
use Rattle.machine.proofs.Waiting.{waits, enters}

pub whole : Main
whole z g vs o = record {
  fits = fits z g vs o;
  count_right = count_right z g vs o;
  conserved = conserved z g vs o;
  in_order = in_order z g vs o;
  at_place = at_place z g vs o;
  one_link = one_link in_order_of_rank z g vs o;
  moves = moves in_order_of_rank count_right z g vs o;
  waits = waits in_order_of_rank count_right z g vs o;
  enters = enters in_order_of_rank count_right z g vs o;
}
