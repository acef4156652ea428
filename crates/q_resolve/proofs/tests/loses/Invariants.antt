use Rattle.std.proofs.Common.{◌≡◌, drop}
use Rattle.q_logic.specs.Prelude.{Literal}
use Rattle.q_resolve.specs.Tests.{is_gone}
use Rattle.q_derive.specs.Testing.{some}
use Rattle.q_resolve.proofs.tests.loses.Given as goal

abbrev pub invariant-loop-k : goal.invariant-loop-k
invariant-loop-k l = some (λ (k : Literal). is_gone l.prefix l.marked k) (drop l.k-index l.parent) ≡ some (λ (k : Literal). is_gone l.prefix l.marked k) l.parent
