-- The canonical text of a formula (QDIMACS 1.1): the header with the greatest variable and the number
-- of clauses, a line for each block, a line for each clause.
use Rattle.std.specs.Prelude.{ℕ, List, [], ◌∷◌, ◌++◌, map, length, max, pos, Option, Some, None, if◌then◌else◌, ◌≤◌, ◌≡◌}
use Rattle.std.specs.Fmt.{decimal}
use Rattle.q_logic.specs.declared.limits.Limits.{Limits}
use Rattle.q_logic.specs.declared.formulas.Bound.{Bound}
use Rattle.q_logic.specs.declared.formulas.Quant.{Quant}
use Rattle.q_logic.specs.declared.formulas.Quant.TheVariants.{Exists, Forall}
use Rattle.q_logic.specs.Prelude.{number_of, Clause, Matrix, Prefix, PrenexFormula, Block, blocks, same_quant}
use Rattle.q_text.specs.Numbers.{number_text, numbers_text, line_end}
use Rattle.q_dimacs.specs.Dimacs.{total}

-- `e ` or `a `
abbrev pub quant_text : Quant → List ℕ
quant_text Exists = 101 ∷ 32 ∷ []
quant_text Forall = 97 ∷ 32 ∷ []

abbrev pub block_text : Block → List ℕ
block_text B = quant_text B.quant ++ (numbers_text (map pos B.vars) ++ line_end)

abbrev pub blocks_text : List Block → List ℕ
blocks_text [] = []
blocks_text (B ∷ Bs) = block_text B ++ blocks_text Bs

abbrev pub clause_text : Clause → List ℕ
clause_text C = numbers_text (map number_of C) ++ line_end

abbrev pub matrix_text : Matrix → List ℕ
matrix_text [] = []
matrix_text (C ∷ Cs) = clause_text C ++ matrix_text Cs

-- the greatest variable of the prefix, or 0
abbrev pub greatest_bound : Prefix → ℕ
greatest_bound [] = 0
greatest_bound (b ∷ P) = max b.var (greatest_bound P)

-- `p cnf `, the two numbers, and LF
abbrev pub header_text : ℕ → ℕ → List ℕ
header_text vars clauses = 112 ∷ 32 ∷ 99 ∷ 110 ∷ 102 ∷ 32 ∷ decimal vars ++ (32 ∷ decimal clauses ++ 10 ∷ [])

-- what stands before the clauses
abbrev pub front_text : PrenexFormula → List ℕ
front_text F = header_text (greatest_bound F.prefix) (length F.matrix) ++ blocks_text (blocks F.prefix)

abbrev pub formula_text : PrenexFormula → List ℕ
formula_text F = header_text (greatest_bound F.prefix) (length F.matrix) ++ (blocks_text (blocks F.prefix) ++ matrix_text F.matrix)

-- the formula and its text keep the limits
pub record KeepsLimits (m : Limits) (F : PrenexFormula) : Type 0 where
  pub vars : greatest_bound F.prefix ≤ m.vars
  pub clauses : length F.matrix ≤ m.clauses
  pub lits : total F.matrix ≤ m.lits
  pub bytes : length (formula_text F) ≤ m.bytes

-- what is left to write of a prefix where a block of this quantifier is open
abbrev pub opening : Option Quant → Quant → List ℕ
opening None q = quant_text q
opening (Some p) q = if same_quant p q then [] else line_end ++ quant_text q

abbrev pub bound_text : Option Quant → Bound → List ℕ
bound_text o b = opening o b.quant ++ number_text (pos b.var)

abbrev pub closing : Option Quant → List ℕ
closing None = []
closing (Some q) = line_end

abbrev pub bounds_text : Option Quant → Prefix → List ℕ
bounds_text o [] = closing o
bounds_text o (b ∷ P) = bound_text o b ++ bounds_text (Some b.quant) P
