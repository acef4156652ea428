use Rattle.std.proofs.Common.{◌≡◌, drop, List}
use Rattle.q_logic.specs.Prelude.{Literal}
use Rattle.q_derive.specs.Testing.{some}
use Rattle.q_resolve.specs.Leaves.{is_same}
use Rattle.q_resolve.proofs.leaves.is_one_of.Given as goal

abbrev pub invariant-loop-i : goal.invariant-loop-i
invariant-loop-i l = some (λ (D : List Literal). is_same D l.term) (drop l.i l.formula.matrix) ≡ some (λ (D : List Literal). is_same D l.term) l.formula.matrix
