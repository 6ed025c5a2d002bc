-- The worked cases, computed row by row. Assumes nothing.
use Rattle.std.proofs.Common.{refl}
use Rattle.net.specs.Order.{order, insert_by}
use Rattle.roads.specs.Numbers.{least, some, every, greatest}
use Rattle.roads.specs.Roads.{within, shortest, first}
use Rattle.machine.specs.Round.{all_handed, all_served, look, play}
use Rattle.machine.specs.Waits.{feeds, feeders, worst, within as patient, onward}
use Rattle.table.specs.Kept.{passes, met}
use Rattle.waits.specs.Laws.{arrived, over}
use Rattle.cases.specs.Cases.{Holds, CasesHold, one_switch, two_switches, two_cables, star, ring_of_four}

pub cases_hold : CasesHold
unfolding least some every greatest within shortest first passes met order insert_by all_handed all_served look play feeds feeders worst patient onward
cases_hold = (one, (two, (parallel, (leaves, (four, tt)))))
  where
    one : Holds one_switch
    one = record {
      root = refl;
      levels = refl;
      ups = refl;
      ranks = refl;
      table = refl;
      feeders = refl;
      patience = refl;
      ways = ((arrived refl, refl), tt);
      came = refl;
      in_turn = refl;
    }

    two : Holds two_switches
    two = record {
      root = refl;
      levels = refl;
      ups = refl;
      ranks = refl;
      table = refl;
      feeders = refl;
      patience = refl;
      ways = ((over refl (arrived refl), refl), ((over refl (arrived refl), refl), ((arrived refl, refl), tt)));
      came = refl;
      in_turn = refl;
    }

    parallel : Holds two_cables
    parallel = record {
      root = refl;
      levels = refl;
      ups = refl;
      ranks = refl;
      table = refl;
      feeders = refl;
      patience = refl;
      ways = ((over refl (arrived refl), refl), ((over refl (arrived refl), refl), tt));
      came = refl;
      in_turn = refl;
    }

    leaves : Holds star
    leaves = record {
      root = refl;
      levels = refl;
      ups = refl;
      ranks = refl;
      table = refl;
      feeders = refl;
      patience = refl;
      ways = ((over refl (over refl (arrived refl)), refl), ((over refl (arrived refl), refl), ((over refl (arrived refl), refl), tt)));
      came = refl;
      in_turn = refl;
    }

    four : Holds ring_of_four
    four = record {
      root = refl;
      levels = refl;
      ups = refl;
      ranks = refl;
      table = refl;
      feeders = refl;
      patience = refl;
      ways = ((over refl (over refl (arrived refl)), refl), ((over refl (over refl (arrived refl)), refl), ((over refl (over refl (arrived refl)), refl), ((over refl (over refl (arrived refl)), refl), tt))));
      came = refl;
      in_turn = refl;
    }
