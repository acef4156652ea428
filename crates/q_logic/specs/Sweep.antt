-- Sweeping: variables that no clause holds leave the prefix, and an empty clause leaves nothing else.
-- (This project's own form.)
use Rattle.std.specs.Prelude.{◌≡◌, ℕ, Bool, true, false, cond, ◌||◌, eqb, [], ◌∷◌}
use Rattle.q_logic.specs.Formulas.{Clause, Matrix, Prefix, PrenexFormula}

-- the clause holds the variable, in either sign
abbrev pub has_variable : ℕ → Clause → Bool
has_variable v [] = false
has_variable v (k ∷ C) = eqb k.var v || has_variable v C

-- some clause holds the variable
abbrev pub occurs : ℕ → Matrix → Bool
occurs v [] = false
occurs v (D ∷ X) = has_variable v D || occurs v X

-- whether some clause is empty
abbrev pub has_empty : Matrix → Bool
has_empty [] = false
has_empty ([] ∷ X) = true
has_empty ((k ∷ C) ∷ X) = has_empty X

-- what is left of the prefix
abbrev pub occurring : Prefix → Matrix → Prefix
occurring [] X = []
occurring (b ∷ P) X = cond (occurs b.var X) (b ∷ occurring P X) (occurring P X)

-- the formula that is plainly false: one empty clause
abbrev pub falsity : PrenexFormula
falsity = record { prefix = []; matrix = [] ∷ [] }

-- the formula after sweeping
abbrev pub swept : PrenexFormula → PrenexFormula
swept F =
    cond (has_empty F.matrix) falsity
    (record { prefix = occurring F.prefix F.matrix; matrix = F.matrix })

-- sweeping leaves the formula as it is
abbrev pub IsSwept : PrenexFormula → Type 0
IsSwept F = swept F ≡ F
