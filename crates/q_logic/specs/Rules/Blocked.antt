-- Blocked: a clause goes that clashes, on an existential literal of it, with each clause that holds the negation. (Biere,
-- Lonsing and Seidl, "Blocked Clause Elimination for QBF", CADE 2011.)
use Rattle.std.specs.Prelude.{◌≡◌, ℕ, true, ◌&&◌, Some}
use Rattle.q_logic.specs.Literals.{Literal}
use Rattle.q_logic.specs.Formulas.{Clause, IsIn}
use Rattle.q_logic.specs.Prefixes.{is_existential}
use Rattle.q_logic.specs.Sets.{has}
use Rattle.q_logic.specs.Blocking.{AllClash, all_clash}
use Rattle.q_logic.specs.Numbered.{slot, others, formula_of}
use Rattle.q_logic.specs.Rule.{Rule, if_some}

abbrev pub rule : ℕ → Literal → Rule
rule c l = record {
  place = c;
  condition = λ B P N. (C : Clause) × (slot N c ≡ Some C) × IsIn l C × (is_existential P l.var ≡ true) ×
      AllClash P (others c N) l C;
  change = λ P N. formula_of P (others c N);
  test = λ B P N.
      if_some (λ C. has l C && (is_existential P l.var && all_clash P (others c N) l C)) (slot N c);
}
