use Rattle.std.proofs.Common.{◌≡◌}
use Rattle.q_blocked.specs.Growths.{Growing}
use Rattle.q_blocked.specs.Notes.{AreApart}
use Rattle.q_blocked.proofs.replay.replay.Given as goal

abbrev pub invariant-loop-step : goal.invariant-loop-step
invariant-loop-step l = record {
  growing : Growing l.kernel l.c l.growth;
  worked : l.growth.worked ≡ l.fn.growth.worked;
  apart : AreApart l.kernel l.apart;
}
