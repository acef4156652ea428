use Rattle.std.proofs.Common.{◌≡◌, ◌-◌, take}
use Rattle.q_watch.specs.Watches.{AreWatchesOf, IsQuietUpTo}
use Rattle.q_blocked.specs.Growths.{Growing}
use Rattle.q_blocked.proofs.watching.close_by_watches.Given as goal

abbrev pub invariant-loop-growth : goal.invariant-loop-growth
invariant-loop-growth l = record {
  growing : Growing l.kernel l.c l.growth;
  right : AreWatchesOf l.kernel l.watches;
  ready : l.watches.ready ≡ l.fn.watches.ready;
  quiet : IsQuietUpTo l.kernel l.watches l.c l.growth.set (take l.growth.worked l.growth.set);
}

abbrev pub decreases-loop-growth : goal.decreases-loop-growth
decreases-loop-growth l = 18446744073709551616 - l.growth.worked
