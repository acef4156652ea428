-- Strengthen: a literal leaves a clause where resolving it away with another clause adds nothing. (Eén and Biere,
-- "Effective preprocessing in SAT through variable and clause elimination", SAT 2005.)
use Rattle.std.specs.Prelude.{◌≡◌, ◌≢◌, ℕ, Bool, true, not, ◌&&◌, ◌||◌, eqb, [], ◌∷◌, Some}
use Rattle.q_logic.specs.Literals.{Literal, negation, literal_eq}
use Rattle.q_logic.specs.Formulas.{Clause, IsIn}
use Rattle.q_logic.specs.Sets.{has}
use Rattle.q_logic.specs.Numbered.{slot, others, formula_of}
use Rattle.q_logic.specs.Rule.{Rule, shortened, if_some}

abbrev pub strengthens : Literal → Clause → Clause → Bool
strengthens l [] D = true
strengthens l (k ∷ C) D = (literal_eq k (negation l) || (has k D && not (literal_eq k l))) &&
    strengthens l C D

-- l is in d, not l in c, and each other literal of c is in d and is not l
abbrev pub rule : ℕ → ℕ → Literal → Rule
rule c d l = record {
  place = d;
  condition = λ B P N. (C : Clause) × (D : Clause) × (c ≢ d) × (slot N c ≡ Some C) × (slot N d ≡ Some D) ×
      IsIn l D × IsIn (negation l) C ×
      ((k : Literal) → IsIn k C → k ≢ negation l → IsIn k D × (k ≢ l));
  change = λ P N. formula_of P (shortened l (slot N d) (others d N));
  test = λ B P N. not (eqb c d) && if_some (λ C. if_some
      (λ D. has l D && (has (negation l) C && strengthens l C D)) (slot N d)) (slot N c);
}
