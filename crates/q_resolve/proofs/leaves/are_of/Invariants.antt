use Rattle.std.proofs.Common.{◌≡◌, drop}
use Rattle.q_logic.specs.Prelude.{Literal, has}
use Rattle.q_derive.specs.Testing.{every}
use Rattle.q_resolve.proofs.leaves.are_of.Given as goal

abbrev pub invariant-loop-k : goal.invariant-loop-k
invariant-loop-k l = every (λ (k : Literal). has k l.clause) (drop l.k-index l.term) ≡ every (λ (k : Literal). has k l.clause) l.term
