use Rattle.std.proofs.Common.{All}
use Rattle.q_kernel.specs.Prelude.{slots}
use Rattle.q_expand.proofs.OtherClauses.{IsOther}
use Rattle.q_expand.proofs.changing.find_clause.Given as goal

abbrev pub invariant-loop-id : goal.invariant-loop-id
invariant-loop-id l = All (λ d. IsOther (slots l.kernel) l.clause d) l.yielded
