-- What the file of the log holds while a formula is simplified.
use Rattle.std.specs.Prelude.{◌≡◌, ◌⊎◌, ℕ, List, ◌++◌, take, Option, Some, Result, OnOk, OnErr, IsErrOf}
use Rattle.std.specs.List.{AllByRecursion}
use Rattle.std.specs.FinMap as map
use Rattle.q_logic.specs.Prelude.{PrenexFormula, standard, ProofStep, ValidSteps, AreAlike}
use Rattle.q_io.specs.Files.{Disk, Later, OthersStay, RoseFor, bytes_at}
use Rattle.q_io.specs.declared.error.DeviceError.{DeviceError}
use Rattle.q_io.specs.declared.error.DeviceError.TheVariants.{Failed}
use Rattle.q_log.specs.Texts.{IsLogged, steps_text}
use Rattle.q_kernel.specs.Prelude.{Seen, formula_in}

-- valid steps lead from F to the kernel's formula; the file holds the text of the first of them, and that of the rest is
-- pending
pub record HasLog (F : PrenexFormula) (name : List ℕ) (before : Disk) (k : Seen) (after : Option Disk) : Type 0 where
  pub disk : Disk
  pub told : after ≡ Some disk
  pub bytes : List ℕ
  pub there : map.get disk name ≡ Some bytes
  pub steps : List ProofStep
  pub logged : AllByRecursion IsLogged steps
  pub text : bytes ++ k.text ≡ steps_text steps
  pub last : PrenexFormula
  pub valid : ValidSteps standard F steps last
  pub alike : AreAlike last (formula_in k)
  pub others : OthersStay name before disk

-- the file holds a front of the text of steps that a log can hold, and that are valid from F on
pub record HoldsFront (F : PrenexFormula) (name : List ℕ) (disk : Disk) : Type 0 where
  pub steps : List ProofStep
  pub logged : AllByRecursion IsLogged steps
  pub last : PrenexFormula
  pub valid : ValidSteps standard F steps last
  pub part : ℕ
  pub bytes : bytes_at disk name ≡ take part (steps_text steps)

-- the file is as before, or holds such a front
abbrev pub MayHoldSteps : PrenexFormula → List ℕ → Disk → Disk → Type 0
MayHoldSteps F name before disk = (map.get disk name ≡ map.get before name) ⊎ HoldsFront F name disk

-- what a fault or want of memory leaves of the log
pub record LeavesLog (F : PrenexFormula) (name : List ℕ) (before : Disk) (after : Option Disk) : Type 0 where
  pub disk : Disk
  pub told : after ≡ Some disk
  pub log : MayHoldSteps F name before disk
  pub others : OthersStay name before disk

-- a call in which the log goes on, over the kernels and the files before and after: whatever formula it leads from, it leads
-- on after Ok, and a front of it is left after an error; the device failed only where writing the file did
pub record LogGoesOn {T X : Type 0} (held : X → Option Disk) (read_faults write_faults : X → List ℕ → ℕ) (name : List ℕ) (result : Result T DeviceError) (j k : Seen) (before after : X) : Type 0 where
  pub log : (F : PrenexFormula) → (first : Disk) → HasLog F name first j (held before) → OnOk result (HasLog F name first k (held after))
  pub left : (F : PrenexFormula) → (first : Disk) → HasLog F name first j (held before) → OnErr result (LeavesLog F name first (held after))
  pub cause : IsErrOf result Failed → RoseFor write_faults name before after
  pub later : Later read_faults write_faults before after
