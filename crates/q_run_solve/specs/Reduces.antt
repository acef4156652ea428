-- The work in memory: a formula is simplified, and its log is checked.
use Rattle.std.specs.Prelude.{◌≡◌, ◌⊎◌, ◌↔◌, ℕ, List, [], ◌∷◌, true, codes, take, Option, Some, None}
use Rattle.std.specs.FinMap as map
use Rattle.q_logic.specs.Prelude.{PrenexFormula, Holds}
use Rattle.q_logic.specs.UsualBounds.{usual}
use Rattle.q_io.specs.Files.{Disk, bytes_at}
use Rattle.q_dimacs.specs.Writing.{formula_text}
use Rattle.q_simplify.specs.declared.options.Options.{Options}
use Rattle.q_simplify.specs.declared.report.Report.{Report}
use Rattle.q_simplify.specs.Results.{IsReport, HoldsRun, OnlyThese}
use Rattle.q_command.specs.Checks.{LeadsBack}
use Rattle.q_command.specs.FirstFaults.{Turn, first_of}
use Rattle.q_run_solve.specs.declared.reducing.Reduced.{Reduced}

-- the rules may go as far as they do without options, and no budget of the measure is given
abbrev pub plain_options : Options
plain_options = record { bounds = usual; budget = None }

-- the names of the texts in memory
abbrev pub in_name : List ℕ
in_name = codes "IN"

abbrev pub out_name : List ℕ
out_name = codes "OUT"

abbrev pub log_name : List ℕ
log_name = codes "LOG"

-- the texts of F, of the G that it is simplified to, and of the log that leads there
pub record IsSimplified (F G : PrenexFormula) (memory : Disk) : Type 0 where
  pub report : Report
  pub reported : IsReport plain_options F report G
  pub truth : Holds F ↔ Holds G
  pub input : map.get memory in_name ≡ Some (formula_text F)
  pub output : map.get memory out_name ≡ Some (formula_text G)
  pub log : HoldsRun F G log_name memory

abbrev pub SomeSimplified : PrenexFormula → Disk → Type 0
SomeSimplified F memory = (G : PrenexFormula) × IsSimplified F G memory

-- the formula of the input and the one that is left, with what the checked log leaves to undo
pub record IsReducedTo (F : PrenexFormula) (r : Reduced) : Type 0 where
  pub start : r.checked.from ≡ F
  pub made : IsSimplified F r.checked.to r.memory
  pub back : LeadsBack true r.checked.from r.checked.to r.checked.undo

-- both texts are written, and all other files are as before
pub record HoldsBoth (output log out_text log_text : List ℕ) (before : Disk) (after : Option Disk) : Type 0 where
  pub disk : Disk
  pub told : after ≡ Some disk
  pub log_is : map.get disk log ≡ Some log_text
  pub out_is : map.get disk output ≡ Some out_text
  pub others : OnlyThese output log before disk

-- the log is whole
abbrev pub HoldsLog : List ℕ → List ℕ → Option Disk → Type 0
HoldsLog log log_text after = (disk : Disk) × (after ≡ Some disk) × (map.get disk log ≡ Some log_text)

-- the log is written first, and the output where the log is whole
abbrev pub turns_of_both : List ℕ → List ℕ → List ℕ → List Turn
turns_of_both output log log_text =
    first_of log ∷ record { name = output; reached = λ before after. HoldsLog log log_text after } ∷ []

-- a front of the log, or the whole log and a front of the output
pub record MayHoldBoth (output log out_text log_text : List ℕ) (before : Disk) (after : Option Disk) : Type 0 where
  pub disk : Disk
  pub told : after ≡ Some disk
  pub log_is : (map.get disk log ≡ map.get before log) ⊎ ((part : ℕ) × (bytes_at disk log ≡ take part log_text))
  pub out_is : (map.get disk output ≡ map.get before output) ⊎ ((map.get disk log ≡ Some log_text) × ((part : ℕ) × (bytes_at disk output ≡ take part out_text)))
  pub others : OnlyThese output log before disk
