-- A checker, and what its calls answer.
use Rattle.std.specs.Prelude.{◌≡◌, Bool, true, false, List, ◌++◌}
use Rattle.q_logic.specs.declared.limits.Limits.{Limits}
use Rattle.q_logic.specs.Prelude.{PrenexFormula, ProofStep, Cause, UndoEntry, Entries}
use Rattle.q_judge.specs.declared.error.CheckError.{CheckError}
use Rattle.q_judge.specs.declared.error.CheckError.TheVariants.{Refused, NoMemory}

pub record Checked : Type 0 where
  pub formula : PrenexFormula
  pub undo : List UndoEntry
  pub limits : Limits
  pub keeps : Bool

-- the undo list after a step
abbrev pub HasGrown : Bool → PrenexFormula → ProofStep → List UndoEntry → List UndoEntry → Type 0
HasGrown false F s old new = new ≡ old
HasGrown true F s old new = (es : List UndoEntry) × Entries F s es × (new ≡ old ++ es)

-- memory may be missing at any time; a refusal carries the least cause
abbrev pub IsRefusal : Limits → PrenexFormula → ProofStep → CheckError → Type 0
IsRefusal m F s (Refused n) = Cause m F s n
IsRefusal m F s NoMemory = Unit {0}
