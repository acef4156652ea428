use Rattle.std.proofs.Common.{◌≡◌, drop}
use Rattle.q_logic.specs.Prelude.{Literal}
use Rattle.q_resolve.specs.Tests.{is_anew}
use Rattle.q_derive.specs.Testing.{some}
use Rattle.q_resolve.proofs.tests.merges_anew.Given as goal

abbrev pub invariant-loop-k : goal.invariant-loop-k
invariant-loop-k l = some (λ (k : Literal). is_anew l.prefix l.own l.parent k) (drop l.k-index l.term) ≡ some (λ (k : Literal). is_anew l.prefix l.own l.parent k) l.term
