use Rattle.std.proofs.Common.{All}
use Rattle.q_subsume.proofs.SubsumeSearch.{IsTried}
use Rattle.q_subsume.proofs.find.find_behind.Given as goal

abbrev pub invariant-loop-c : goal.invariant-loop-c
invariant-loop-c l = All (λ c. IsTried l.kernel l.from c) l.yielded
