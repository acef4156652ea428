use Rattle.std.proofs.Common.{◌≢◌, All}
use Rattle.q_reduce.proofs.sides.lacks.Given as goal

abbrev pub invariant-loop-x : goal.invariant-loop-x
invariant-loop-x l = All (λ x. x ≢ l.d) l.yielded
