use Rattle.std.proofs.Common.{◌≡◌, drop}
use Rattle.q_logic.specs.Prelude.{Literal, is_bound}
use Rattle.q_derive.specs.Testing.{every}
use Rattle.q_resolve.proofs.tests.are_bound.Given as goal

abbrev pub invariant-loop-k : goal.invariant-loop-k
invariant-loop-k l = every (λ (k : Literal). is_bound l.prefix k.var) (drop l.k-index l.lits) ≡ every (λ (k : Literal). is_bound l.prefix k.var) l.lits
