-- Tautology: a clause that holds a literal and its negation goes. (Davis and Putnam 1960.)
use Rattle.std.specs.Prelude.{◌≡◌, ℕ, Some}
use Rattle.q_logic.specs.Formulas.{Clause}
use Rattle.q_logic.specs.Sets.{IsTautology, is_tautology}
use Rattle.q_logic.specs.Numbered.{slot, others, formula_of}
use Rattle.q_logic.specs.Rule.{Rule, if_some}

abbrev pub rule : ℕ → Rule
rule c = record {
  place = c;
  condition = λ B P N. (C : Clause) × (slot N c ≡ Some C) × IsTautology C;
  change = λ P N. formula_of P (others c N);
  test = λ B P N. if_some is_tautology (slot N c);
}
