use Rattle.std.proofs.Common.{◌-◌}
use Rattle.q_watch.specs.Watches.{IsSame}
use Rattle.q_blocked.specs.Growths.{Growing}
use Rattle.q_blocked.proofs.hidden.close_by_lists.Given as goal

abbrev pub invariant-loop-growth : goal.invariant-loop-growth
invariant-loop-growth l = record { growing : Growing l.kernel l.c l.growth; same : IsSame l.fn.watches l.watches }

abbrev pub decreases-loop-growth : goal.decreases-loop-growth
decreases-loop-growth l = 18446744073709551616 - l.growth.worked
