-- Subsumed: a clause that holds each literal of another one goes. (Biere, "Resolve and Expand", SAT 2004.)
use Rattle.std.specs.Prelude.{◌≡◌, ◌≢◌, ℕ, not, ◌&&◌, eqb, Some}
use Rattle.q_logic.specs.Formulas.{Clause}
use Rattle.q_logic.specs.Sets.{IsSubset, all_in}
use Rattle.q_logic.specs.Numbered.{slot, others, formula_of}
use Rattle.q_logic.specs.Rule.{Rule, if_some}

-- each literal of c is in d
abbrev pub rule : ℕ → ℕ → Rule
rule c d = record {
  place = d;
  condition = λ B P N. (C : Clause) × (D : Clause) × (c ≢ d) × (slot N c ≡ Some C) × (slot N d ≡ Some D) ×
      IsSubset C D;
  change = λ P N. formula_of P (others d N);
  test = λ B P N. not (eqb c d) && if_some (λ C. if_some (all_in C) (slot N d)) (slot N c);
}
