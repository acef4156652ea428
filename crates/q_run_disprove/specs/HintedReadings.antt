-- Steps of a log with hints that are made while it is read.
use Rattle.std.specs.Prelude.{◌≡◌, ◌+◌, false, List, [], length}
use Rattle.q_logic.specs.Prelude.{PrenexFormula, NumberedFormula, ProofStep, ProofPart, add, begun, delete, drop_literal, fresh, hinted_after, plain, remove_variable, standard, without}
use Rattle.q_judge.specs.declared.error.CheckError.{CheckError}
use Rattle.q_judge.specs.declared.error.CheckError.TheVariants as check
use Rattle.q_refutation.specs.Refutations.{IsLost}
use Rattle.q_shown.specs.HintedRefutations.{AreHintedMadeUnlost, HintedBadCause, HintedMayBeMade}
use Rattle.q_command.specs.Logs.{Entry, HintedEntry, hinted_of}
use Rattle.q_run_disprove.specs.declared.disproved.Disproved.{Disproved}
use Rattle.q_run_disprove.specs.declared.disproved.Disproved.TheVariants as outcome
use Rattle.q_run_disprove.specs.declared.hint_refuter.HintRefuter.{HintRefuter}

-- a step that leaves the empty clause: it is added, or a clause loses its only literal
abbrev pub BringsEmpty : ProofStep → Type 0
BringsEmpty (add p C) = C ≡ []
BringsEmpty (delete p C) = ⊥
BringsEmpty (drop_literal l C) = without l C ≡ []
BringsEmpty (fresh v w) = ⊥
BringsEmpty (remove_variable v) = ⊥

-- memory may be missing at any time; a refusal carries the least cause
abbrev pub IsHintedBadFor : NumberedFormula → ProofStep → ProofPart → CheckError → Type 0
IsHintedBadFor N s x (check.Refused n) = HintedBadCause standard N s x n
IsHintedBadFor N s x check.NoMemory = Unit {0}

-- the checker has the limits of the program and keeps no undo list, and the empty clause is not there
pub record IsHintUnderWay (t : HintRefuter) : Type 0 where
  pub limits : t.checker.limits ≡ standard
  pub keeps : t.checker.keeps ≡ false
  pub unlost : ¬ IsLost (plain t.checker.formula)
  pub counted : t.checker.steps ≡ t.steps

-- no step is made
pub record IsHintBegun (F : PrenexFormula) (t : HintRefuter) : Type 0 where
  pub under_way : IsHintUnderWay t
  pub numbered : t.checker.formula ≡ begun F
  pub none : t.steps ≡ 0

-- one step more is made, and the empty clause is not there
pub record HintGoes (s : ProofStep) (x : ProofPart) (old new : HintRefuter) : Type 0 where
  pub may : HintedMayBeMade standard old.checker.formula s x
  pub formula : new.checker.formula ≡ hinted_after old.checker.formula s x
  pub under_way : IsHintUnderWay new
  pub steps : new.steps ≡ old.steps + 1

-- what is said of the next step: the empty clause comes by it, or it is not taken
abbrev pub HintConvicts : Disproved → HintRefuter → Entry → ProofPart → Type 0
HintConvicts (outcome.False n) t e x =
    HintedMayBeMade standard t.checker.formula e.1 x × IsLost (plain (hinted_after t.checker.formula e.1 x)) × (n ≡ t.steps + 1)
HintConvicts (outcome.RefusedLine n c) t e x = (n ≡ e.0) × HintedBadCause standard t.checker.formula e.1 x c
HintConvicts outcome.RefusedEnd t e x = ⊥
HintConvicts (outcome.RefusedInput n c) t e x = ⊥
HintConvicts outcome.ReadFault t e x = ⊥
HintConvicts outcome.NoMemory t e x = Unit {0}

-- these steps are made from F on, as their proof parts show, and the empty clause was never there
pub record IsHintSoFar (F : PrenexFormula) (hs : List HintedEntry) (t : HintRefuter) : Type 0 where
  pub made : AreHintedMadeUnlost standard (begun F) (hinted_of hs) t.checker.formula
  pub all : t.steps ≡ length hs
