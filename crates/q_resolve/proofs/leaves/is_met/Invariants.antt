use Rattle.std.proofs.Common.{◌≡◌, drop}
use Rattle.q_logic.specs.Prelude.{Literal, has}
use Rattle.q_derive.specs.Testing.{some}
use Rattle.q_resolve.proofs.leaves.is_met.Given as goal

abbrev pub invariant-loop-k : goal.invariant-loop-k
invariant-loop-k l = some (λ (k : Literal). has k l.marked) (drop l.k-index l.clause) ≡ some (λ (k : Literal). has k l.marked) l.clause
