use Rattle.std.proofs.Common.{◌≡◌, drop}
use Rattle.q_logic.specs.Prelude.{Literal, has}
use Rattle.q_derive.specs.Testing.{every}
use Rattle.q_resolve.proofs.leaves.is_within.Given as goal

abbrev pub invariant-loop-k : goal.invariant-loop-k
invariant-loop-k l = every (λ (k : Literal). has k l.marked) (drop l.k-index l.clause) ≡ every (λ (k : Literal). has k l.marked) l.clause
