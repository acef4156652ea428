-- What a rule of simplification says at one target. Each rule is a file of `Rules`, as one such record.
use Rattle.std.specs.Prelude.{ℕ, Bool, false, ◌∷◌, Option, Some, None}
use Rattle.q_logic.specs.declared.rule_bounds.Bounds.{Bounds}
use Rattle.q_logic.specs.Literals.{Literal}
use Rattle.q_logic.specs.Formulas.{Clause, Matrix, Prefix, PrenexFormula}
use Rattle.q_logic.specs.Pivots.{without}
use Rattle.q_logic.specs.Numbered.{Slots}

pub record Rule : Type 1 where
  -- where a search finds it: the number of the clause that changes, or the variable
  pub place : ℕ
  -- when it may be taken
  pub condition : Bounds → Prefix → Slots → Type 0
  -- what the formula becomes, before sweeping
  pub change : Prefix → Slots → PrenexFormula
  -- a plain, slow program that decides the condition, there to be computed at small formulas
  pub test : Bounds → Prefix → Slots → Bool

-- the clause, if there is one, without the literal, beside the others
abbrev pub shortened : Literal → Option Clause → Matrix → Matrix
shortened l None X = X
shortened l (Some C) X = without l C ∷ X

-- the test, if there is a clause
abbrev pub if_some : (Clause → Bool) → Option Clause → Bool
if_some f None = false
if_some f (Some C) = f C
