-- Blocked on a universal: a universal literal leaves a clause that lacks its negation and clashes on it with each clause
-- that holds the negation. (Heule, Seidl and Biere, "A Unified Proof System for QBF Preprocessing", IJCAR 2014.)
use Rattle.std.specs.Prelude.{◌≡◌, ℕ, true, not, ◌&&◌, Some}
use Rattle.q_logic.specs.Literals.{Literal, negation}
use Rattle.q_logic.specs.Formulas.{Clause, IsIn}
use Rattle.q_logic.specs.Prefixes.{is_universal}
use Rattle.q_logic.specs.Sets.{has}
use Rattle.q_logic.specs.Blocking.{AllClash, all_clash}
use Rattle.q_logic.specs.Numbered.{slot, others, formula_of}
use Rattle.q_logic.specs.Rule.{Rule, shortened, if_some}

abbrev pub rule : ℕ → Literal → Rule
rule c l = record {
  place = c;
  condition = λ B P N. (C : Clause) × (slot N c ≡ Some C) × IsIn l C × (is_universal P l.var ≡ true) ×
      (IsIn (negation l) C → ⊥) × AllClash P (others c N) l C;
  change = λ P N. formula_of P (shortened l (slot N c) (others c N));
  test = λ B P N. if_some (λ C. has l C && (is_universal P l.var &&
      (not (has (negation l) C) && all_clash P (others c N) l C))) (slot N c);
}
