use Rattle.q_kernel.specs.Prelude.{slots}
use Rattle.q_blocked.specs.Walks.{GivesNoneAt}
use Rattle.q_blocked.specs.Growths.{Growing, IsPushed}
use Rattle.q_blocked.proofs.PassedClauses.{HasPassed}
use Rattle.q_blocked.proofs.hidden.spread_list.Given as goal

abbrev pub invariant-loop-d : goal.invariant-loop-d
invariant-loop-d l = record {
  growing : Growing l.kernel l.c l.growth;
  pushed : IsPushed l.fn.growth l.growth;
  gives_none : HasPassed (slots l.kernel) l.c l.yielded (λ D. GivesNoneAt l.fn.growth.set l.growth.set D);
}
