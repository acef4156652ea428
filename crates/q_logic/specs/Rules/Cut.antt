-- Cut: a universal literal that is reducible leaves its clause. (Universal reduction: Kleine Büning, Karpinski and Flögel
-- 1995; by a dependency scheme: Heule, Seidl and Biere, IJCAR 2014.)
use Rattle.std.specs.Prelude.{◌≡◌, ℕ, zero, suc, ◌+◌, Bool, true, cond, not, ◌&&◌, length, [], ◌∷◌, Some}
use Rattle.q_logic.specs.Clauses.{insert}
use Rattle.q_logic.specs.Literals.{Literal, negation}
use Rattle.q_logic.specs.Formulas.{Clause, Matrix, Prefix}
use Rattle.q_logic.specs.Prefixes.{is_universal}
use Rattle.q_logic.specs.Reach.{Reducible}
use Rattle.q_logic.specs.Sets.{has, union, negated_in}
use Rattle.q_logic.specs.Measure.{size_of}
use Rattle.q_logic.specs.Expanding.{inner_existential}
use Rattle.q_logic.specs.Numbered.{slot, others, formula_of}
use Rattle.q_logic.specs.Rule.{Rule, shortened, if_some}

-- The inner existential literals of the reached clauses, turn by turn.
abbrev pub inner_literals : Prefix → ℕ → Clause → Clause
inner_literals P u [] = []
inner_literals P u (k ∷ C) =
    cond (inner_existential P u k.var) (insert k (inner_literals P u C)) (inner_literals P u C)

-- the clause does not hold l, and holds the negation of a literal of K
abbrev pub is_hit : Literal → Clause → Clause → Bool
is_hit l K D = not (has l D) && negated_in K D

abbrev pub reach_once : Prefix → Literal → Matrix → Clause → Clause
reach_once P l [] K = K
reach_once P l (D ∷ X) K =
    cond (is_hit l K D) (union (inner_literals P l.var D) (reach_once P l X K)) (reach_once P l X K)

abbrev pub reach_often : ℕ → Prefix → Literal → Matrix → Clause → Clause
reach_often zero P l X K = K
reach_often (suc n) P l X K = reach_once P l X (reach_often n P l X K)

abbrev pub none_hit : Literal → Matrix → Clause → Bool
none_hit l [] K = true
none_hit l (D ∷ X) K = not (is_hit l K D && has (negation l) D) && none_hit l X K

abbrev pub reducible : Prefix → Matrix → Clause → Literal → Bool
reducible P X C l = is_universal P l.var &&
    (has l C &&
    (not (has (negation l) C) &&
    none_hit l X (reach_often (length C + size_of X) P l X (inner_literals P l.var C))))

abbrev pub rule : ℕ → Literal → Rule
rule c l = record {
  place = c;
  condition = λ B P N. (C : Clause) × (slot N c ≡ Some C) × Reducible P (others c N) C l;
  change = λ P N. formula_of P (shortened l (slot N c) (others c N));
  test = λ B P N. if_some (λ C. reducible P (others c N) C l) (slot N c);
}
