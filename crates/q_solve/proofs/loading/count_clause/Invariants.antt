use Rattle.std.proofs.Common.{[]}
use Rattle.q_logic.specs.Prelude.{nothing}
use Rattle.q_logic.specs.Decisions.{standing}
use Rattle.q_search.specs.Paths.{along, rest_of}
use Rattle.q_solve.proofs.EnteredClauses.{IsCounting}
use Rattle.q_solve.proofs.loading.count_clause.Given as goal

abbrev pub invariant-loop-lit : goal.invariant-loop-lit
invariant-loop-lit l = IsCounting (standing (rest_of l.prefix []) (along l.prefix [] nothing)) l.clause l.count l.lit-index
