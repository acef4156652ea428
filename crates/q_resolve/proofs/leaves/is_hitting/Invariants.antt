use Rattle.std.proofs.Common.{◌≡◌, ◌||◌, drop, List}
use Rattle.q_logic.specs.Prelude.{Literal, has, is_tautology}
use Rattle.q_derive.specs.Testing.{every, some}
use Rattle.q_resolve.proofs.leaves.is_hitting.Given as goal

abbrev pub invariant-loop-i : goal.invariant-loop-i
invariant-loop-i l = every (λ (D : List Literal). is_tautology D || some (λ (k : Literal). has k l.marked) D) (drop l.i l.formula.matrix) ≡ every (λ (D : List Literal). is_tautology D || some (λ (k : Literal). has k l.marked) D) l.formula.matrix
