use Rattle.q_blocked.specs.Targets.{target_of}
use Rattle.q_blocked.specs.Learned.{IsRightFor}
use Rattle.q_rule.proofs.RuleSearch.{IsPassed}
use Rattle.q_blocked.proofs.find.find_between.Given as goal

abbrev pub invariant-loop-c : goal.invariant-loop-c
invariant-loop-c l = record { passed : IsPassed target_of l.kernel l.fn.from l.c; right : IsRightFor l.kernel l.search }
