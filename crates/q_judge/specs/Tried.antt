-- What a step that is tried on a formula answers, and what the end of a check does.
use Rattle.std.specs.Prelude.{◌≡◌, ◌⊎◌, ℕ, Bool, true, false, Option, None, Result, Ok, Err, length}
use Rattle.q_logic.specs.declared.limits.Limits.{Limits}
use Rattle.q_logic.specs.Prelude.{Clause, PrenexFormula, IsFormula, blocks, SameBlocks, ProofStep, Valid, Cause, after, literals_in, copies, AreAlike, Entries}
use Rattle.q_judge.specs.declared.undo.Undo.{Undo}
use Rattle.q_judge.specs.declared.error.CheckError.{CheckError}
use Rattle.q_judge.specs.declared.error.CheckError.TheVariants.{Refused, NoMemory}
use Rattle.q_judge.specs.Entries.{entries_of}

-- the formula's numbers of clauses and literals are known
pub record IsCounted (F : PrenexFormula) (clauses lits : ℕ) : Type 0 where
  pub formula : IsFormula F
  pub clauses_are : clauses ≡ length F.matrix
  pub lits_are : lits ≡ literals_in F.matrix

-- what a step puts into the undo list, where it is kept
abbrev pub IsEntry : Bool → PrenexFormula → ProofStep → Option Undo → Type 0
IsEntry false F s u = u ≡ None
IsEntry true F s u = Entries F s (entries_of u)

-- a step was tried on F, and G is there now
abbrev pub IsTried : Bool → Limits → PrenexFormula → ProofStep → PrenexFormula → Result (Option Undo) CheckError → Type 0
IsTried keep m F s G (Ok u) = Valid m F s × AreAlike (after F s) G × IsEntry keep F s u
IsTried keep m F s G (Err NoMemory) = G ≡ F
IsTried keep m F s G (Err (Refused n)) = (G ≡ F) × Cause m F s n

-- cause 9 where the blocks differ, 10 where the clauses alone do
abbrev pub IsEndRefusal : PrenexFormula → PrenexFormula → CheckError → Type 0
IsEndRefusal F G (Refused n) =
    ((n ≡ 9) × ¬ SameBlocks (blocks F.prefix) (blocks G.prefix))
    ⊎ ((n ≡ 10) × SameBlocks (blocks F.prefix) (blocks G.prefix) × ¬ ((C : Clause) → copies C F.matrix ≡ copies C G.matrix))
IsEndRefusal F G NoMemory = Unit {0}
