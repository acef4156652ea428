-- The measure of a formula: each rule of simplification lowers it. (This project's own.)
use Rattle.std.specs.Prelude.{ℕ, ◌+◌, ◌*◌, Bool, true, false, not, ◌&&◌, [], ◌∷◌, length}
use Rattle.q_logic.specs.declared.rule_bounds.Bounds.{Bounds}
use Rattle.q_logic.specs.Formulas.{Matrix, Prefix, PrenexFormula}
use Rattle.q_logic.specs.Prefixes.{is_exists}
use Rattle.q_logic.specs.Sweep.{occurs}

-- the number of literals and clauses
abbrev pub size_of : Matrix → ℕ
size_of [] = 0
size_of (C ∷ X) = length C + 1 + size_of X

-- 1 where the test passes
abbrev pub one_if : Bool → ℕ
one_if true = 1
one_if false = 0

-- the number of existential variables that occur in a clause
abbrev pub existentials_in : Prefix → Matrix → ℕ
existentials_in [] X = 0
existentials_in (b ∷ P) X = one_if (is_exists b.quant && occurs b.var X) + existentials_in P X

-- the number of universal variables that occur in a clause
abbrev pub universals_in : Prefix → Matrix → ℕ
universals_in [] X = 0
universals_in (b ∷ P) X = one_if (not (is_exists b.quant) && occurs b.var X) + universals_in P X

-- an existential outweighs what its elimination adds, and a universal what its expansion adds
abbrev pub measure_of : Bounds → PrenexFormula → ℕ
measure_of B F =
    size_of F.matrix + (B.grow + 1) * existentials_in F.prefix F.matrix +
    (B.expand + (B.grow + 1) * B.expand + 1) * universals_in F.prefix F.matrix
