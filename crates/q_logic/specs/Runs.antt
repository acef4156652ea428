-- Runs of valid steps. (This project's own; every deletion is checked.)
use Rattle.std.specs.Prelude.{◌≡◌, ℕ, ◌+◌, cond, List, [], ◌∷◌}
use Rattle.q_logic.specs.Formulas.{Clause, Matrix, PrenexFormula}
use Rattle.q_logic.specs.Prefixes.{blocks, SameBlocks}
use Rattle.q_logic.specs.Steps.{ProofStep, clause_eq, Valid, after}
use Rattle.q_logic.specs.declared.limits.Limits.{Limits}
use Rattle.q_logic.specs.Limits.{standard}

-- the steps are valid one after the other, and E is the last formula
abbrev pub ValidSteps : Limits → PrenexFormula → List ProofStep → PrenexFormula → Type 0
ValidSteps m F [] E = F ≡ E
ValidSteps m F (s ∷ ss) E = Valid m F s × ValidSteps m (after F s) ss E

-- the number of copies of a clause
abbrev pub copies : Clause → Matrix → ℕ
copies C [] = 0
copies C (D ∷ X) = cond (clause_eq D C) (copies C X + 1) (copies C X)

-- one prefix, and each clause as often: two formulas that differ in the order of their clauses alone
pub record AreAlike (F G : PrenexFormula) : Type 0 where
  pub prefix : F.prefix ≡ G.prefix
  pub clauses : (C : Clause) → copies C F.matrix ≡ copies C G.matrix

-- the same blocks, and the same clauses with as many copies
pub record SameFormula (F G : PrenexFormula) : Type 0 where
  pub same_blocks : SameBlocks (blocks F.prefix) (blocks G.prefix)
  pub same_clauses : (C : Clause) → copies C F.matrix ≡ copies C G.matrix

-- the steps lead from F to a formula with the blocks and the clauses of G
pub record Run (F : PrenexFormula) (ss : List ProofStep) (G : PrenexFormula) : Type 0 where
  pub last : PrenexFormula
  pub steps : ValidSteps standard F ss last
  pub same : SameFormula last G
