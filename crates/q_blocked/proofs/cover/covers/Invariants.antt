use Rattle.q_kernel.specs.Prelude.{slots}
use Rattle.q_watch.specs.Watches.{AreRightFor}
use Rattle.q_blocked.specs.Units.{AreRight}
use Rattle.q_blocked.specs.Notes.{AreApart}
use Rattle.q_blocked.specs.Growths.{Growing}
use Rattle.q_blocked.specs.Following.{IsFollowed}
use Rattle.q_blocked.proofs.cover.covers.Given as goal

abbrev pub invariant-loop-round : goal.invariant-loop-round
invariant-loop-round l = record {
  growing : Growing l.kernel l.c l.search.growth;
  units : AreRight (slots l.kernel) l.search.units;
  watches : AreRightFor l.kernel l.search.watches;
  apart : AreApart l.kernel l.search.apart;
  followed : IsFollowed l.kernel l.search.watches l.c l.search.growth;
}
