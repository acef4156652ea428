-- Steps of a proof: when each is valid, what it leaves, and what is wrong with one that is not valid.
-- (Additions, deletions and the dropping of a literal: Heule, Seidl, Biere, "A Unified Proof System for QBF
-- Preprocessing", IJCAR 2014. Fresh and removed variables, and that a deletion has to be justified, are this
-- project's own.)
use Rattle.std.specs.Prelude.{◌≡◌, ◌≤◌, ◌<◌, ℕ, ◌+◌, ◌*◌, Bool, true, false, cond, ◌&&◌, eqb, [], ◌∷◌, length, ◌⊎◌, Option, Some}
use Rattle.q_logic.specs.declared.limits.Limits.{Limits}
use Rattle.q_logic.specs.declared.formulas.Quant.TheVariants.{Exists}
use Rattle.q_logic.specs.Literals.{Literal, literal_eq}
use Rattle.q_logic.specs.Formulas.{Clause, Matrix, Prefix, IsIn, PrenexFormula}
use Rattle.q_logic.specs.Prefixes.{is_existential, is_bound}
use Rattle.q_logic.specs.Propagation.{Implied}
use Rattle.q_logic.specs.Pivots.{ExistsPivot, without, ForallPivot}
use Rattle.q_logic.specs.Reach.{Reducible}

-- whether the two clauses are equal
abbrev pub clause_eq : Clause → Clause → Bool
clause_eq [] [] = true
clause_eq [] (k ∷ D) = false
clause_eq (j ∷ C) [] = false
clause_eq (j ∷ C) (k ∷ D) = literal_eq j k && clause_eq C D

-- the clauses with one copy of C fewer
abbrev pub one_less : Clause → Matrix → Matrix
one_less C [] = []
one_less C (D ∷ X) = cond (clause_eq D C) X (D ∷ one_less C X)

-- the prefix with the existential v directly after w
abbrev pub insert_after : ℕ → ℕ → Prefix → Prefix
insert_after w v [] = []
insert_after w v (b ∷ P) =
    cond (eqb b.var w) (b ∷ record { quant = Exists; var = v } ∷ P) (b ∷ insert_after w v P)

-- the prefix without v
abbrev pub removed_from : ℕ → Prefix → Prefix
removed_from v [] = []
removed_from v (b ∷ P) = cond (eqb b.var v) P (b ∷ removed_from v P)

-- a step; of a clause the first literal is told beside its set of literals
pub data ProofStep : Type 0 where
  add : Option Literal → Clause → ProofStep
  delete : Option Literal → Clause → ProofStep
  drop_literal : Literal → Clause → ProofStep
  fresh : ℕ → ℕ → ProofStep
  remove_variable : ℕ → ProofStep

-- the first literal is an existential pivot
abbrev pub FirstPivot : Prefix → Matrix → Clause → Option Literal → Type 0
FirstPivot P X C p = (l : Literal) × (p ≡ Some l) × ExistsPivot P X C l

-- the variables of the clause are in the prefix
abbrev pub Within : Prefix → Clause → Type 0
Within P C = (k : Literal) → IsIn k C → is_bound P k.var ≡ true

-- why a clause may come, or may go from what is left: implied, or by its first literal
abbrev pub IsWarranted : Prefix → Matrix → Clause → Option Literal → Type 0
IsWarranted P X C p = Implied X C ⊎ FirstPivot P X C p

-- why a clause may lose a universal literal, beside the other clauses
abbrev pub IsDroppable : Prefix → Matrix → Clause → Literal → Type 0
IsDroppable P X C l = ForallPivot P X C l ⊎ Reducible P X C l

-- no clause holds the variable
abbrev pub IsAbsent : Matrix → ℕ → Type 0
IsAbsent X v = (D : Clause) → IsIn D X → (k : Literal) → IsIn k D → eqb k.var v ≡ false

-- the number of literals
abbrev pub literals_in : Matrix → ℕ
literals_in [] = 0
literals_in (C ∷ X) = length C + literals_in X

-- four times what a file may have
pub record KeepsLimits (m : Limits) (X : Matrix) : Type 0 where
  pub clauses : length X ≤ 4 * m.clauses
  pub lits : literals_in X ≤ 4 * m.lits

-- v may come into the prefix behind w
pub record IsFresh (m : Limits) (P : Prefix) (v w : ℕ) : Type 0 where
  pub absent : is_bound P v ≡ false
  pub positive : 1 ≤ v
  pub within : v ≤ m.vars
  pub behind : is_existential P w ≡ true

-- a valid step
abbrev pub Valid : Limits → PrenexFormula → ProofStep → Type 0
Valid m F (add p C) =
    Within F.prefix C × IsWarranted F.prefix F.matrix C p × KeepsLimits m (C ∷ F.matrix)
Valid m F (delete p C) =
    Within F.prefix C × IsIn C F.matrix × IsWarranted F.prefix (one_less C F.matrix) C p
Valid m F (drop_literal l C) =
    Within F.prefix C × IsIn C F.matrix × IsDroppable F.prefix (one_less C F.matrix) C l
Valid m F (fresh v w) = IsFresh m F.prefix v w
Valid m F (remove_variable v) = (is_bound F.prefix v ≡ true) × IsAbsent F.matrix v

-- what is wrong with a step, by number
abbrev pub IsWrong : Limits → PrenexFormula → ProofStep → ℕ → Type 0
IsWrong m F (add p C) n =
    ((n ≡ 2) × ¬ Within F.prefix C) ⊎ ((n ≡ 4) × ¬ IsWarranted F.prefix F.matrix C p) ⊎
    ((n ≡ 8) × ¬ KeepsLimits m (C ∷ F.matrix))
IsWrong m F (delete p C) n =
    ((n ≡ 2) × ¬ Within F.prefix C) ⊎ ((n ≡ 3) × ¬ IsIn C F.matrix) ⊎
    ((n ≡ 4) × ¬ IsWarranted F.prefix (one_less C F.matrix) C p)
IsWrong m F (drop_literal l C) n =
    ((n ≡ 2) × ¬ Within F.prefix C) ⊎ ((n ≡ 3) × ¬ IsIn C F.matrix) ⊎
    ((n ≡ 5) × ¬ IsDroppable F.prefix (one_less C F.matrix) C l)
IsWrong m F (fresh v w) n = (n ≡ 6) × ¬ IsFresh m F.prefix v w
IsWrong m F (remove_variable v) n =
    ((n ≡ 2) × (is_bound F.prefix v ≡ false)) ⊎ ((n ≡ 7) × ¬ IsAbsent F.matrix v)

-- the least number that applies
pub record Cause (m : Limits) (F : PrenexFormula) (s : ProofStep) (n : ℕ) : Type 0 where
  pub applies : IsWrong m F s n
  pub least : (k : ℕ) → k < n → ¬ IsWrong m F s k

-- the formula after a step
abbrev pub after : PrenexFormula → ProofStep → PrenexFormula
after F (add p C) = record { prefix = F.prefix; matrix = C ∷ F.matrix }
after F (delete p C) = record { prefix = F.prefix; matrix = one_less C F.matrix }
after F (drop_literal l C) =
    record { prefix = F.prefix; matrix = without l C ∷ one_less C F.matrix }
after F (fresh v w) = record { prefix = insert_after w v F.prefix; matrix = F.matrix }
after F (remove_variable v) = record { prefix = removed_from v F.prefix; matrix = F.matrix }
