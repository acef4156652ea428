use Rattle.std.proofs.Common.{◌≢◌, Some, take}
use Rattle.q_logic.specs.Prelude.{Literal, IsIn}
use Rattle.q_rule.proofs.OrderedClauses.{IsLeft}
use Rattle.q_rule.proofs.missing.first_missing.Given as goal

abbrev pub invariant-loop-k : goal.invariant-loop-k
invariant-loop-k l = record {
  passed : (j : Literal) → IsIn j (take l.k-index l.c) → l.aside ≢ Some j → IsIn j l.d;
  rest : IsLeft l.c l.k-index l.d l.at;
}
