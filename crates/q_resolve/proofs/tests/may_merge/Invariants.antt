use Rattle.std.proofs.Common.{◌≡◌, drop}
use Rattle.q_logic.specs.Prelude.{Literal}
use Rattle.q_resolve.specs.Tests.{is_after}
use Rattle.q_derive.specs.Testing.{every}
use Rattle.q_resolve.proofs.tests.may_merge.Given as goal

abbrev pub invariant-loop-k : goal.invariant-loop-k
invariant-loop-k l = every (λ (g : Literal). is_after l.prefix l.marked l.at g) (drop l.k-index l.first) ≡ every (λ (g : Literal). is_after l.prefix l.marked l.at g) l.first
