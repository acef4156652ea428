-- Cover: a clause goes that grows, by hidden and covered literals, to a tautology or a blocked clause. (Heule, Järvisalo
-- and Biere, "Covered Clause Elimination", LPAR 2010; for quantified formulas with Lonsing and Seidl, JAIR 53, 2015.)
use Rattle.std.specs.Prelude.{◌≡◌, ℕ, Some}
use Rattle.q_logic.specs.Formulas.{Clause}
use Rattle.q_logic.specs.Covering.{Covers, is_covered}
use Rattle.q_logic.specs.Numbered.{slot, others, formula_of}
use Rattle.q_logic.specs.Rule.{Rule, if_some}

-- some growth of c ends
abbrev pub rule : ℕ → Rule
rule c = record {
  place = c;
  condition = λ B P N. (C : Clause) × (slot N c ≡ Some C) × Covers P (others c N) C;
  change = λ P N. formula_of P (others c N);
  test = λ B P N. if_some (is_covered P (others c N)) (slot N c);
}
