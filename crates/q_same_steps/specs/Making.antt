-- Steps that are made without being judged: what that asks for, and what is said where it can't be.
use Rattle.std.specs.Prelude.{◌≡◌, ◌⊎◌, ◌<◌, ℕ, true, false, List, [], ◌∷◌}
use Rattle.q_logic.specs.declared.limits.Limits.{Limits}
use Rattle.q_logic.specs.Formulas.{IsIn, PrenexFormula}
use Rattle.q_logic.specs.Prefixes.{is_bound}
use Rattle.q_logic.specs.Steps.{ProofStep, add, delete, drop_literal, fresh, remove_variable, after, Within, KeepsLimits, IsFresh, IsAbsent}

-- a step can be made on a formula, whatever may speak for it
abbrev pub Applies : Limits → PrenexFormula → ProofStep → Type 0
Applies m F (add p C) = Within F.prefix C × KeepsLimits m (C ∷ F.matrix)
Applies m F (delete p C) = Within F.prefix C × IsIn C F.matrix
Applies m F (drop_literal l C) = Within F.prefix C × IsIn C F.matrix
Applies m F (fresh v w) = IsFresh m F.prefix v w
Applies m F (remove_variable v) = (is_bound F.prefix v ≡ true) × IsAbsent F.matrix v

-- what is wrong with a step that can't be made, by number: 4 and 5 are causes of those alone who judge
abbrev pub IsUnfit : Limits → PrenexFormula → ProofStep → ℕ → Type 0
IsUnfit m F (add p C) n = ((n ≡ 2) × ¬ Within F.prefix C) ⊎ ((n ≡ 8) × ¬ KeepsLimits m (C ∷ F.matrix))
IsUnfit m F (delete p C) n = ((n ≡ 2) × ¬ Within F.prefix C) ⊎ ((n ≡ 3) × ¬ IsIn C F.matrix)
IsUnfit m F (drop_literal l C) n = ((n ≡ 2) × ¬ Within F.prefix C) ⊎ ((n ≡ 3) × ¬ IsIn C F.matrix)
IsUnfit m F (fresh v w) n = (n ≡ 6) × ¬ IsFresh m F.prefix v w
IsUnfit m F (remove_variable v) n = ((n ≡ 2) × (is_bound F.prefix v ≡ false)) ⊎ ((n ≡ 7) × ¬ IsAbsent F.matrix v)

-- the least number that applies
pub record Unfit (m : Limits) (F : PrenexFormula) (s : ProofStep) (n : ℕ) : Type 0 where
  pub applies : IsUnfit m F s n
  pub least : (k : ℕ) → k < n → ¬ IsUnfit m F s k

-- the formula behind some steps
abbrev pub made : PrenexFormula → List ProofStep → PrenexFormula
made F [] = F
made F (s ∷ ss) = made (after F s) ss
