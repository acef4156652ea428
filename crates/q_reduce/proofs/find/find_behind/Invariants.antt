use Rattle.std.proofs.Common.{All}
use Rattle.q_reduce.specs.Learned.{IsFitFor}
use Rattle.q_reduce.proofs.ReduceSearch.{IsTried}
use Rattle.q_reduce.proofs.find.find_behind.Given as goal

abbrev pub invariant-loop-c : goal.invariant-loop-c
invariant-loop-c l = record { tried : All (λ c. IsTried l.kernel c) l.yielded; fit : IsFitFor l.kernel l.search }
