use Rattle.std.proofs.Common.{All}
use Rattle.q_reduce.specs.Forests.{IsFree}
use Rattle.q_reduce.proofs.forest.Forest.is_clear.Given as goal

abbrev pub invariant-loop-x : goal.invariant-loop-x
invariant-loop-x l = All (λ x. IsFree l.self.places l.top l.from l.to x) l.yielded
