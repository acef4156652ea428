-- Truth by recursion on the prefix (textbook), as a proposition, and as a slow program that decides it.
use Rattle.std.specs.Prelude.{◌≡◌, ℕ, Bool, true, false, cond, not, ◌&&◌, ◌||◌, eqb, [], ◌∷◌, ◌⊎◌}
use Rattle.q_logic.specs.declared.formulas.Quant.{Quant}
use Rattle.q_logic.specs.declared.formulas.Quant.TheVariants.{Exists, Forall}
use Rattle.q_logic.specs.Literals.{Literal}
use Rattle.q_logic.specs.Formulas.{Clause, Matrix, Prefix, IsIn, PrenexFormula}

-- a value for each variable
abbrev pub Assignment : Type 0
Assignment = ℕ → Bool

-- the value, turned round where the sign is negative
abbrev pub signed : Bool → Bool → Bool
signed true b = not b
signed false b = b

-- the literal is true under the assignment
abbrev pub LiteralTrue : Assignment → Literal → Type 0
LiteralTrue A k = signed k.negative (A k.var) ≡ true

-- some literal of the clause is true
abbrev pub ClauseTrue : Assignment → Clause → Type 0
ClauseTrue A C = (k : Literal) × IsIn k C × LiteralTrue A k

-- each clause is true
abbrev pub MatrixTrue : Assignment → Matrix → Type 0
MatrixTrue A X = (D : Clause) → IsIn D X → ClauseTrue A D

-- the assignment with another value at v
abbrev pub with_value : Assignment → ℕ → Bool → Assignment
with_value A v b w = cond (eqb w v) b (A w)

-- one of the two, or both
abbrev pub by_quant : Quant → Type 0 → Type 0 → Type 0
by_quant Exists S T = S ⊎ T
by_quant Forall S T = S × T

-- the game on a prefix: a value is chosen for each existential, and each value of a universal has to do;
-- W says when the end is won
abbrev pub Game : Prefix → (Assignment → Type 0) → Assignment → Type 0
Game [] W A = W A
Game (b ∷ P) W A =
    by_quant b.quant (Game P W (with_value A b.var false)) (Game P W (with_value A b.var true))

-- the game that is won where the matrix is true
abbrev pub HoldsUnder : Prefix → Matrix → Assignment → Type 0
HoldsUnder P X A = Game P (λ B. MatrixTrue B X) A

-- the formula is true
abbrev pub Holds : PrenexFormula → Type 0
Holds F = HoldsUnder F.prefix F.matrix (λ x. false)

-- whether the literal is true under the assignment
abbrev pub literal_true : Assignment → Literal → Bool
literal_true A k = signed k.negative (A k.var)

-- whether some literal of the clause is true
abbrev pub clause_true : Assignment → Clause → Bool
clause_true A [] = false
clause_true A (k ∷ C) = literal_true A k || clause_true A C

-- whether each clause is true
abbrev pub matrix_true : Assignment → Matrix → Bool
matrix_true A [] = true
matrix_true A (C ∷ X) = clause_true A C && matrix_true A X

-- one of the two, or both
abbrev pub one_or_both : Quant → Bool → Bool → Bool
one_or_both Exists a b = a || b
one_or_both Forall a b = a && b

-- both values of each variable are tried
abbrev pub is_true_under : Prefix → Matrix → Assignment → Bool
is_true_under [] X A = matrix_true A X
is_true_under (b ∷ P) X A =
    one_or_both b.quant
    (is_true_under P X (with_value A b.var false))
    (is_true_under P X (with_value A b.var true))

-- whether the formula is true
abbrev pub is_true : PrenexFormula → Bool
is_true F = is_true_under F.prefix F.matrix (λ x. false)
