use Rattle.std.proofs.Common.{◌≡◌, ◌-◌, length, take}
use Rattle.q_watch.specs.Rows.{row_of}
use Rattle.q_watch.specs.Watches.{AreWatchesOf, IsQuietFrom}
use Rattle.q_blocked.specs.Growths.{Growing, IsPushed}
use Rattle.q_blocked.proofs.watching.spread_watched.Given as goal

abbrev pub invariant-loop-i : goal.invariant-loop-i
invariant-loop-i l = record {
  growing : Growing l.kernel l.c l.growth;
  pushed : IsPushed l.fn.growth l.growth;
  right : AreWatchesOf l.kernel l.watches;
  ready : l.watches.ready ≡ l.fn.watches.ready;
  quiet : IsQuietFrom l.kernel l.watches l.c l.growth.set (take l.fn.growth.worked l.fn.growth.set) l.k l.i;
}

abbrev pub decreases-loop-i : goal.decreases-loop-i
decreases-loop-i l = length (row_of l.watches.rows l.k) - l.i
