use Rattle.q_blocked.specs.Notes.{AreApart}
use Rattle.q_blocked.proofs.CoverPass.{IsPassing}
use Rattle.q_blocked.proofs.cover.pass.Given as goal

abbrev pub invariant-loop-at : goal.invariant-loop-at
invariant-loop-at l = record {
  passing : IsPassing l.kernel l.c l.fn.growth l.growth l.at l.grew;
  apart : AreApart l.kernel l.apart;
}
