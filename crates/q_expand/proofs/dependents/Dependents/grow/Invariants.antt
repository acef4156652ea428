use Rattle.q_expand.specs.Dependents.{IsWithin}
use Rattle.q_expand.proofs.WholeWalk.{IsWalk}
use Rattle.q_expand.proofs.dependents.Dependents.grow.Given as goal

abbrev pub invariant-loop-head : goal.invariant-loop-head
invariant-loop-head l = record { walk : IsWalk l.kernel l.u.var l.head l.self; within : IsWithin l.room l.self }
