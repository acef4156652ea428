-- What `solve` says and leaves, over the files before and after.
use Rattle.std.specs.Prelude.{◌≡◌, ◌≢◌, ◌⊎◌, ◌↔◌, ◌<◌, ◌^◌, ℕ, List, [], ◌∷◌, length, map as each, take, Option, Some, None}
use Rattle.std.specs.FinMap as map
use Rattle.q_logic.specs.Prelude.{PrenexFormula, standard, Holds, CertificateView, trees_of, SkolemOf}
use Rattle.q_logic.specs.Decisions.{decisions}
use Rattle.q_io.specs.Files.{Disk, bytes_at}
use Rattle.q_io.specs.declared.error.DeviceError.{DeviceError}
use Rattle.q_io.specs.declared.error.DeviceError.TheVariants as device
use Rattle.q_dimacs.specs.Writing.{formula_text}
use Rattle.q_dimacs.specs.Offences.{Offence}
use Rattle.q_aiger.specs.Writing.{IsCanonical}
use Rattle.q_certificate.specs.Prelude.{universals, existentials}
use Rattle.q_search.specs.Budgets.{IsBelow}
use Rattle.q_sched.specs.Settled.{IsSettled}
use Rattle.q_simplify.specs.declared.report.Report.{Report}
use Rattle.q_simplify.specs.Logs.{MayHoldSteps}
use Rattle.q_simplify.specs.Results.{IsReport, HoldsRun, HoldsPart}
use Rattle.q_command.specs.declared.status.Status.{Status}
use Rattle.q_command.specs.declared.status.Status.TheVariants as status
use Rattle.q_command.specs.declared.input.InputError.{InputError}
use Rattle.q_command.specs.declared.input.InputError.TheVariants as reading
use Rattle.q_command.specs.Checks.{IsFileOf, IsNoFormula, Exactly, MayCome}
use Rattle.q_command.specs.Texts.{HoldsCircuits, MayHoldCircuits}
use Rattle.q_command.specs.FirstFaults.{Turn, first_of, untold}
use Rattle.q_command.specs.Told.{Told}
use Rattle.q_run_solve.specs.declared.names.SolveNames.{SolveNames}
use Rattle.q_run_solve.specs.declared.solved.Solved.{Solved}
use Rattle.q_run_solve.specs.declared.solved.Solved.TheVariants.{True, False, Unknown, RefusedInput, ReadFault, WriteFault, NoMemory}
use Rattle.q_run_solve.specs.Reduces.{plain_options}
use Rattle.q_run_solve.specs.SolvedLines.{status_of_solved, line_of_solved}

-- the names of the four files
pub record SolveFiles : Type 0 where
  pub input : List ℕ
  pub output : List ℕ
  pub log : List ℕ
  pub cert : List ℕ

abbrev pub files_of : SolveNames → SolveFiles
files_of n = record { input = n.input.now; output = n.output.now; log = n.log.now; cert = n.cert.now }

-- the names of the files that are read
abbrev pub names_read : SolveFiles → List (List ℕ)
names_read n = n.input ∷ []

-- the names of the files that are written
abbrev pub names_written : SolveFiles → List (List ℕ)
names_written n = n.output ∷ n.log ∷ n.cert ∷ []

-- all names but these three are as before
abbrev pub OthersKept : SolveFiles → Disk → Disk → Type 0
OthersKept n before after = (q : List ℕ) → q ≢ n.output → q ≢ n.log → q ≢ n.cert → map.get after q ≡ map.get before q

-- OUT and LOG are what `simplify` without a budget leaves of the formula F of IN: the text of a settled G, and that of
-- steps that lead there; the search in G makes fewer decisions than its variables have assignments
pub record IsReduced (n : SolveFiles) (before after : Disk) (F G : PrenexFormula) : Type 0 where
  pub is_input : IsFileOf (bytes_at before n.input) F
  pub report : Report
  pub reported : IsReport plain_options F report G
  pub settled : IsSettled plain_options.bounds G
  pub truth : Holds F ↔ Holds G
  pub out_is : map.get after n.output ≡ Some (formula_text G)
  pub log_is : HoldsRun F G n.log after
  pub few : decisions G < 2 ^ length G.prefix
  pub others : OthersKept n before after

-- the circuits are Skolem functions of F: inputs are its universals and outputs its existentials, in the order of the prefix
pub record AreCircuitsOf (F : PrenexFormula) (made : CertificateView) : Type 0 where
  pub inputs : made.inputs ≡ universals F.prefix
  pub outputs : each (λ o. o.name) made.outputs ≡ existentials F.prefix
  pub skolem : SkolemOf F (trees_of made)

-- the file holds the canonical text of circuits of F, with so many gates
pub record HoldsAnswer (name : List ℕ) (gates : ℕ) (F : PrenexFormula) (after : Disk) : Type 0 where
  pub made : CertificateView
  pub circuits : AreCircuitsOf F made
  pub text : List ℕ
  pub canonical : IsCanonical made gates text
  pub bytes : map.get after name ≡ Some text

-- a front of such a text
pub record HoldsAnswerFront (name : List ℕ) (F : PrenexFormula) (after : Disk) : Type 0 where
  pub made : CertificateView
  pub circuits : AreCircuitsOf F made
  pub gates : ℕ
  pub text : List ℕ
  pub canonical : IsCanonical made gates text
  pub part : ℕ
  pub bytes : bytes_at after name ≡ take part text

-- the three files are written as far as they are to be, and of F and G this is true
pub record IsDone (n : SolveFiles) (before : Disk) (after : Option Disk) (P : PrenexFormula → PrenexFormula → Disk → Type 0) : Type 0 where
  pub disk : Disk
  pub told : after ≡ Some disk
  pub from : PrenexFormula
  pub to : PrenexFormula
  pub reduced : IsReduced n before disk from to
  pub holds : P from to disk

abbrev pub SameAt : List ℕ → Disk → Disk → Type 0
SameAt name before after = map.get after name ≡ map.get before name

-- what a fault or want of memory leaves: OUT and LOG as after `simplify`, and CERT as before or a front of circuits of F
pub record IsLeft (n : SolveFiles) (before : Disk) (after : Option Disk) : Type 0 where
  pub disk : Disk
  pub told : after ≡ Some disk
  pub from : PrenexFormula
  pub is_input : IsFileOf (bytes_at before n.input) from
  pub log_is : MayHoldSteps from n.log before disk
  pub out_is : SameAt n.output before disk ⊎ HoldsPart from n.output n.log disk
  pub cert_is : SameAt n.cert before disk ⊎ HoldsAnswerFront n.cert from disk
  pub others : OthersKept n before disk

-- LOG is whole: it has the text of steps that lead from the formula of IN to some other
pub record IsLogged (n : SolveFiles) (before : Disk) (after : Option Disk) : Type 0 where
  pub disk : Disk
  pub told : after ≡ Some disk
  pub from : PrenexFormula
  pub to : PrenexFormula
  pub is_input : IsFileOf (bytes_at before n.input) from
  pub log_is : HoldsRun from to n.log disk

-- LOG is written first, OUT where LOG is whole, and CERT where both are
abbrev pub output_turn : SolveFiles → Turn
output_turn n = record { name = n.output; reached = IsLogged n }

abbrev pub cert_turn : SolveFiles → Turn
cert_turn n = record { name = n.cert; reached = λ before after. IsDone n before after (λ F G disk. Unit {0}) }

abbrev pub turns_written : SolveFiles → List Turn
turns_written n = first_of n.log ∷ output_turn n ∷ cert_turn n ∷ []

-- the formula is true, false, or the budget is spent
abbrev pub IsTrueAnswer : SolveFiles → Option ℕ → ℕ → PrenexFormula → PrenexFormula → Disk → Type 0
IsTrueAnswer n budget gates F G disk = (¬ IsBelow budget (decisions G)) × Holds F × HoldsAnswer n.cert gates F disk

abbrev pub IsFalseAnswer : SolveFiles → Option ℕ → Disk → PrenexFormula → PrenexFormula → Disk → Type 0
IsFalseAnswer n budget before F G disk = (¬ IsBelow budget (decisions G)) × (¬ Holds F) × SameAt n.cert before disk

abbrev pub IsNoAnswer : SolveFiles → Option ℕ → Disk → PrenexFormula → PrenexFormula → Disk → Type 0
IsNoAnswer n budget before F G disk = IsBelow budget (decisions G) × SameAt n.cert before disk

-- what there is to say, and what the files hold then
abbrev pub Solves : Solved → SolveFiles → Option ℕ → Disk → Option Disk → Type 0
Solves (True g) n budget before after = IsDone n before after (IsTrueAnswer n budget g)
Solves False n budget before after = IsDone n before after (IsFalseAnswer n budget before)
Solves Unknown n budget before after = IsDone n before after (IsNoAnswer n budget before)
Solves (RefusedInput k c) n budget before after = Offence standard (bytes_at before n.input) k c × (after ≡ Some before)
Solves ReadFault n budget before after = after ≡ Some before
Solves WriteFault n budget before after = IsLeft n before after
Solves NoMemory n budget before after = (after ≡ Some before) ⊎ IsLeft n before after

-- what carrying circuits back to F leaves
abbrev pub Certifies : Solved → List ℕ → PrenexFormula → Disk → Option Disk → Type 0
Certifies (True g) cert F before after = (made : CertificateView) × AreCircuitsOf F made × HoldsCircuits made g cert before after
Certifies False cert F before after = ⊥
Certifies Unknown cert F before after = ⊥
Certifies (RefusedInput k c) cert F before after = ⊥
Certifies ReadFault cert F before after = ⊥
Certifies WriteFault cert F before after = (made : CertificateView) × AreCircuitsOf F made × MayHoldCircuits made cert before after
Certifies NoMemory cert F before after =
    (after ≡ Some before) ⊎ ((made : CertificateView) × AreCircuitsOf F made × MayHoldCircuits made cert before after)

-- what the search and the circuits add, from formulas F and G on
abbrev pub Concludes : Solved → List ℕ → Option ℕ → PrenexFormula → PrenexFormula → Disk → Option Disk → Type 0
Concludes (True g) cert budget F G before after = (¬ IsBelow budget (decisions G)) × Holds G × Certifies (True g) cert F before after
Concludes False cert budget F G before after = (¬ IsBelow budget (decisions G)) × (¬ Holds G) × (after ≡ Some before)
Concludes Unknown cert budget F G before after = IsBelow budget (decisions G) × (after ≡ Some before)
Concludes (RefusedInput k c) cert budget F G before after = ⊥
Concludes ReadFault cert budget F G before after = ⊥
Concludes WriteFault cert budget F G before after = Certifies WriteFault cert F before after
Concludes NoMemory cert budget F G before after = Certifies NoMemory cert F before after

-- what writing the certificate leaves
abbrev pub Puts : Solved → CertificateView → List ℕ → Disk → Option Disk → Type 0
Puts (True g) made name before after = HoldsCircuits made g name before after
Puts False made name before after = ⊥
Puts Unknown made name before after = ⊥
Puts (RefusedInput k c) made name before after = ⊥
Puts ReadFault made name before after = ⊥
Puts WriteFault made name before after = MayHoldCircuits made name before after
Puts NoMemory made name before after = (after ≡ Some before) ⊎ MayHoldCircuits made name before after

abbrev pub failed_write : DeviceError → Solved
failed_write device.Failed = WriteFault
failed_write device.NoMemory = NoMemory

abbrev pub refusal_of : InputError → Solved
refusal_of (reading.Refused n c) = RefusedInput n c
refusal_of reading.Fault = ReadFault
refusal_of reading.NoMemory = NoMemory

-- the status says that OUT and LOG are written
abbrev pub IsEnded : Status → Type 0
IsEnded s = (s ≡ status.True) ⊎ (s ≡ status.False) ⊎ (s ≡ status.Unknown)

-- for the formulas F of IN and G of OUT: Unknown comes exactly where a budget below the number of decisions in G is given; else
-- the status says whether F is true, and CERT holds circuits of a true F, and is as before otherwise
pub record Answers (given : Status) (n : SolveFiles) (budget : Option ℕ) (before : Disk) (F G : PrenexFormula) (disk : Disk) : Type 0 where
  pub unknown : (given ≡ status.Unknown) ↔ IsBelow budget (decisions G)
  pub holds : (given ≡ status.True) ↔ ((¬ IsBelow budget (decisions G)) × Holds F)
  pub fails : (given ≡ status.False) ↔ ((¬ IsBelow budget (decisions G)) × (¬ Holds F))
  pub circuits : given ≡ status.True → (gates : ℕ) × HoldsAnswer n.cert gates F disk
  pub kept : (given ≡ status.False) ⊎ (given ≡ status.Unknown) → SameAt n.cert before disk

-- when each status of `solve` comes, and what the files hold then
pub record SolvesExactly (given : Status) (n : SolveFiles) (budget : Option ℕ) (before : Disk) (after : Option Disk) : Type 0 where
  pub ended : IsEnded given → IsDone n before after (Answers given n budget before)
  pub refused : Exactly given status.InputRefused (IsNoFormula (bytes_at before n.input))
  pub untouched : (given ≡ status.InputRefused) ⊎ (given ≡ status.ReadFault) → after ≡ Some before
  pub left : (given ≡ status.WriteFault) ⊎ (given ≡ status.NoMemory) → (after ≡ Some before) ⊎ IsLeft n before after
  pub any : IsEnded given ⊎ (given ≡ status.InputRefused) ⊎ MayCome given

-- the command; a formula is true, false, or the budget is spent
abbrev pub told : SolveFiles → Option ℕ → Told
told n budget = record {
  Outcome = Solved;
  status_of = status_of_solved;
  line_of = line_of_solved;
  says = λ o disk after. Solves o n budget disk after;
  gives = λ given disk after. SolvesExactly given n budget disk after;
  answers = λ disk given.
      (F : PrenexFormula) → IsFileOf (bytes_at disk n.input) F →
      (IsEnded given ⊎ (given ≡ status.NoMemory)) × (budget ≡ None → given ≢ status.Unknown);
  reads = names_read n;
  writes = names_written n;
  reads_at = untold (names_read n);
  writes_at = turns_written n;
}
