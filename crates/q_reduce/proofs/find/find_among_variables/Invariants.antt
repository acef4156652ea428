use Rattle.q_reduce.specs.Targets.{target_of}
use Rattle.q_reduce.specs.Learned.{IsFitFor}
use Rattle.q_rule.proofs.RuleSearch.{IsPassed}
use Rattle.q_reduce.proofs.find.find_among_variables.Given as goal

abbrev pub invariant-loop-place : goal.invariant-loop-place
invariant-loop-place l = record { passed : IsPassed target_of l.kernel l.from l.place; fit : IsFitFor l.kernel l.search }
