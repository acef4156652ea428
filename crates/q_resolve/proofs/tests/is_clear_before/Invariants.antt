use Rattle.std.proofs.Common.{◌≡◌, drop}
use Rattle.q_logic.specs.Prelude.{Literal}
use Rattle.q_resolve.specs.Tests.{is_front}
use Rattle.q_derive.specs.Testing.{every}
use Rattle.q_resolve.proofs.tests.is_clear_before.Given as goal

abbrev pub invariant-loop-k : goal.invariant-loop-k
invariant-loop-k l = every (λ (k : Literal). is_front l.prefix l.at k) (drop l.k-index l.parent) ≡ every (λ (k : Literal). is_front l.prefix l.at k) l.parent
