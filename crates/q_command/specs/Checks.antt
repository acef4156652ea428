-- What `check` answers over the bytes of its three files.
use Rattle.std.specs.Prelude.{◌≡◌, ◌⊎◌, ◌↔◌, ℕ, Bool, true, List, [], ◌∷◌, length, Some}
use Rattle.q_logic.specs.Prelude.{PrenexFormula, HintedRun, HintedSteps as AreValid, NumberedFormula, begun, plain, standard, ProofStep, ValidSteps, Run, Holds, UndoEntry, Undos}
use Rattle.q_io.specs.Files.{bytes_at}
use Rattle.q_dimacs.specs.Dimacs.{Dimacs}
use Rattle.q_dimacs.specs.Offences.{Offence}
use Rattle.q_log.specs.Logs.{Steps}
use Rattle.q_hinted.specs.Logs.{HintedSteps}
use Rattle.q_command.specs.Logs.{Entry, HintedEntry, steps_of, hinted_of, stripped, EndsApart, IsRefusedAt}
use Rattle.q_command.specs.Taken.{entries_of}
use Rattle.q_command.specs.FirstFaults.{Turn, first_of, where_so}
use Rattle.q_command.specs.Lines.{line_of}
use Rattle.q_command.specs.Names.{ThreeNames, names_read}
use Rattle.q_command.specs.Statuses.{status_of}
use Rattle.q_command.specs.Told.{Told, OrNoMemory}
use Rattle.q_command.specs.declared.audit.Keep.{Keep}
use Rattle.q_command.specs.declared.checking.Checked.{Checked}
use Rattle.q_command.specs.declared.checking.Ends.{Ends}
use Rattle.q_command.specs.declared.outcome.Role.{Role}
use Rattle.q_command.specs.declared.outcome.Role.TheVariants.{In, Out}
use Rattle.q_command.specs.declared.outcome.Outcome.{Outcome}
use Rattle.q_command.specs.declared.outcome.Outcome.TheVariants.{Verified, RefusedLine, RefusedEnd, RefusedInput, ReadFault, NoMemory}
use Rattle.q_command.specs.declared.input.InputError.{InputError}
use Rattle.q_command.specs.declared.input.InputError.TheVariants as reading
use Rattle.q_command.specs.declared.status.Status.{Status}
use Rattle.q_command.specs.declared.status.Status.TheVariants as status

-- the bytes are the file of a formula
abbrev pub IsFileOf : List ℕ → PrenexFormula → Type 0
IsFileOf bytes F = Dimacs standard bytes F

abbrev pub IsFormulaFile : List ℕ → Type 0
IsFormulaFile bytes = (F : PrenexFormula) × IsFileOf bytes F

abbrev pub IsNoFormula : List ℕ → Type 0
IsNoFormula bytes = (F : PrenexFormula) → ¬ IsFileOf bytes F

-- the files hold formulas of which this is true
pub record OfFormulas (input output : List ℕ) (P : PrenexFormula → PrenexFormula → Type 0) : Type 0 where
  pub from : PrenexFormula
  pub to : PrenexFormula
  pub is_input : IsFileOf input from
  pub is_output : IsFileOf output to
  pub holds : P from to

-- the bytes are a plain log whose steps are a run from F to G
pub record IsPlainRunLog (log : List ℕ) (F G : PrenexFormula) (entries : List Entry) : Type 0 where
  pub is_log : Steps standard.bytes log ≡ Some entries
  pub run : Run F (steps_of entries) G

-- the bytes are a log of the second profile, whose steps with their proof parts are a hinted run from F to G; without
-- these parts the steps are the entries
pub record IsHintedRunLog (log : List ℕ) (F G : PrenexFormula) (entries : List Entry) : Type 0 where
  pub hinted : List HintedEntry
  pub is_log : HintedSteps standard.bytes log ≡ Some hinted
  pub run : HintedRun F (hinted_of hinted) G
  pub entries_are : entries ≡ stripped hinted

-- the bytes are a log of either profile that leads from F to G by these steps
abbrev pub IsRunLog : List ℕ → PrenexFormula → PrenexFormula → List Entry → Type 0
IsRunLog log F G entries = IsPlainRunLog log F G entries ⊎ IsHintedRunLog log F G entries

abbrev pub LeadsTo : List ℕ → PrenexFormula → PrenexFormula → Type 0
LeadsTo log F G = (entries : List Entry) × IsRunLog log F G entries

-- the bytes are a plain log whose steps are valid from F on, and leave this formula
pub record IsPlainWay (log : List ℕ) (F last : PrenexFormula) : Type 0 where
  pub entries : List Entry
  pub is_log : Steps standard.bytes log ≡ Some entries
  pub steps : ValidSteps standard F (steps_of entries) last

-- the bytes are a log of the second profile whose steps are valid as their proof parts show
pub record IsHintedWay (log : List ℕ) (F last : PrenexFormula) : Type 0 where
  pub hinted : List HintedEntry
  pub is_log : HintedSteps standard.bytes log ≡ Some hinted
  pub numbered : NumberedFormula
  pub steps : AreValid standard (begun F) (hinted_of hinted) numbered
  pub last_is : last ≡ plain numbered

-- the steps are valid and end in a formula other than G: cause 9 where the blocks differ, 10 where
-- only the clauses do
pub record EndsElsewhere (log : List ℕ) (F G : PrenexFormula) (cause : ℕ) : Type 0 where
  pub last : PrenexFormula
  pub way : IsPlainWay log F last ⊎ IsHintedWay log F last
  pub apart : EndsApart last G cause

-- the log leads from F to G by so many steps, and where an undo list is kept, this is theirs
pub record LogPasses (keep : Bool) (log : List ℕ) (F G : PrenexFormula) (n : ℕ) (us : List UndoEntry) : Type 0 where
  pub entries : List Entry
  pub leads : IsRunLog log F G entries
  pub count : n ≡ length entries
  pub undone : keep ≡ true → Undos F (steps_of entries) us

-- some steps lead from F to G, and where an undo list is kept, this is theirs
abbrev pub LeadsBack : Bool → PrenexFormula → PrenexFormula → List UndoEntry → Type 0
LeadsBack keep F G us = (ss : List ProofStep) × Run F ss G × (keep ≡ true → Undos F ss us)

-- the files hold these formulas, the log passes, and where its steps are kept, these are they
pub record FilesPass (keep : Keep) (i o l : List ℕ) (c : Checked) : Type 0 where
  pub is_input : IsFileOf i c.from
  pub is_output : IsFileOf o c.to
  pub log : LogPasses keep.undo l c.from c.to c.steps c.undo
  pub taken : keep.steps ≡ true → entries_of c.taken.items ≡ log.entries

-- the files hold these formulas
pub record AreEnds (input output : List ℕ) (e : Ends) : Type 0 where
  pub is_input : IsFileOf input e.from
  pub is_output : IsFileOf output e.to

-- what the outcome says of a log, from the formula F to G
abbrev pub LogSays : Outcome → PrenexFormula → PrenexFormula → List ℕ → Type 0
LogSays (Verified n) F G log = (entries : List Entry) × IsRunLog log F G entries × (n ≡ length entries)
LogSays (RefusedLine n c) F G log = IsRefusedAt F log n c
LogSays (RefusedEnd c) F G log = EndsElsewhere log F G c
LogSays (RefusedInput r n c) F G log = ⊥
LogSays ReadFault F G log = Unit {0}
LogSays NoMemory F G log = Unit {0}

-- what the outcome says of the three files
abbrev pub Checks : Outcome → List ℕ → List ℕ → List ℕ → Type 0
Checks (Verified n) i o l = OfFormulas i o (λ F G. LogSays (Verified n) F G l)
Checks (RefusedLine n c) i o l = OfFormulas i o (λ F G. LogSays (RefusedLine n c) F G l)
Checks (RefusedEnd c) i o l = OfFormulas i o (λ F G. LogSays (RefusedEnd c) F G l)
Checks (RefusedInput In n c) i o l = Offence standard i n c
Checks (RefusedInput Out n c) i o l = (F : PrenexFormula) × IsFileOf i F × Offence standard o n c
Checks ReadFault i o l = Unit {0}
Checks NoMemory i o l = Unit {0}

abbrev pub input_refused : Role → InputError → Outcome
input_refused r (reading.Refused n c) = RefusedInput r n c
input_refused r reading.Fault = ReadFault
input_refused r reading.NoMemory = NoMemory

-- why an operand gives no formula
abbrev pub IsInputRefusal : Role → Outcome → List ℕ → Type 0
IsInputRefusal r (Verified n) bytes = ⊥
IsInputRefusal r (RefusedLine n c) bytes = ⊥
IsInputRefusal r (RefusedEnd c) bytes = ⊥
IsInputRefusal r (RefusedInput s n c) bytes = (s ≡ r) × Offence standard bytes n c
IsInputRefusal r ReadFault bytes = Unit {0}
IsInputRefusal r NoMemory bytes = Unit {0}

-- no log was verified
abbrev pub IsUnverified : Outcome → Type 0
IsUnverified (Verified n) = ⊥
IsUnverified (RefusedLine n c) = Unit {0}
IsUnverified (RefusedEnd c) = Unit {0}
IsUnverified (RefusedInput s n c) = Unit {0}
IsUnverified ReadFault = Unit {0}
IsUnverified NoMemory = Unit {0}

-- an outcome that comes before the log is looked at
abbrev pub IsEarly : Outcome → Type 0
IsEarly (Verified n) = ⊥
IsEarly (RefusedLine n c) = ⊥
IsEarly (RefusedEnd c) = ⊥
IsEarly (RefusedInput s n c) = Unit {0}
IsEarly ReadFault = Unit {0}
IsEarly NoMemory = Unit {0}

-- the log leads from the formula of IN to that of OUT
abbrev pub IsVerified : List ℕ → List ℕ → List ℕ → Type 0
IsVerified i o l = OfFormulas i o (LeadsTo l)

-- IN and OUT hold formulas, and the log does not lead from one to the other
abbrev pub IsNoRun : List ℕ → List ℕ → List ℕ → Type 0
IsNoRun i o l = OfFormulas i o (λ F G. ¬ LeadsTo l F G)

-- the formulas of the two files have one truth value
abbrev pub HaveOneTruth : List ℕ → List ℕ → Type 0
HaveOneTruth i o = (F G : PrenexFormula) → IsFileOf i F → IsFileOf o G → Holds F ↔ Holds G

abbrev pub IfVerified : Outcome → Type 0 → Type 0
IfVerified (Verified n) P = P
IfVerified (RefusedLine n c) P = Unit {0}
IfVerified (RefusedEnd c) P = Unit {0}
IfVerified (RefusedInput r n c) P = Unit {0}
IfVerified ReadFault P = Unit {0}
IfVerified NoMemory P = Unit {0}

-- faults and want of memory may come in place of any answer
abbrev pub MayCome : Status → Type 0
MayCome s = (s ≡ status.ReadFault) ⊎ (s ≡ status.WriteFault) ⊎ (s ≡ status.NoMemory)

-- the status comes exactly where this holds, but for faults and want of memory
abbrev pub Exactly : Status → Status → Type 0 → Type 0
Exactly answer s P = (answer ≡ s → P) × (P → (answer ≡ s) ⊎ MayCome answer)

-- when each status comes that tells whether this is so of the formulas of IN and OUT
pub record AnswersBy (P : PrenexFormula → PrenexFormula → Type 0) (answer : Status) (i o : List ℕ) : Type 0 where
  pub verified : Exactly answer status.Done (OfFormulas i o P)
  pub log_refused : Exactly answer status.LogRefused (OfFormulas i o (λ F G. ¬ P F G))
  pub input_refused : Exactly answer status.InputRefused (IsNoFormula i ⊎ IsNoFormula o)

-- when each status of `check` comes
pub record AnswersExactly (answer : Status) (i o l : List ℕ) : Type 0 where
  pub verified : Exactly answer status.Done (IsVerified i o l)
  pub truth : answer ≡ status.Done → HaveOneTruth i o
  pub log_refused : Exactly answer status.LogRefused (IsNoRun i o l)
  pub input_refused : Exactly answer status.InputRefused (IsNoFormula i ⊎ IsNoFormula o)

-- IN is read first, and the other file where IN holds a formula
abbrev pub input_then : List ℕ → List ℕ → List Turn
input_then input name = first_of input ∷ where_so (λ disk. IsFormulaFile (bytes_at disk input)) name ∷ []

-- IN is read first, OUT where IN holds a formula, and LOG where both do
abbrev pub input_turn : ThreeNames → Turn
input_turn n = first_of n.input

abbrev pub output_turn : ThreeNames → Turn
output_turn n = where_so (λ disk. IsFormulaFile (bytes_at disk n.input)) n.output

abbrev pub log_turn : ThreeNames → Turn
log_turn n = where_so (λ disk. IsFormulaFile (bytes_at disk n.input) × IsFormulaFile (bytes_at disk n.output)) n.log

abbrev pub turns_of_ends : ThreeNames → List Turn
turns_of_ends n = input_turn n ∷ output_turn n ∷ []

abbrev pub turns_read : ThreeNames → List Turn
turns_read n = input_turn n ∷ output_turn n ∷ log_turn n ∷ []

-- the three files, and one more behind them
abbrev pub turns_and : ThreeNames → Turn → List Turn
turns_and n last = input_turn n ∷ output_turn n ∷ log_turn n ∷ last ∷ []

-- the command; a log that leads from IN to OUT is verified, another one refused
abbrev pub told : ThreeNames → Told
told n = record {
  Outcome = Outcome;
  status_of = status_of;
  line_of = line_of;
  says = λ o disk after. Checks o (bytes_at disk n.input) (bytes_at disk n.output) (bytes_at disk n.log);
  gives = λ given disk after. AnswersExactly given (bytes_at disk n.input) (bytes_at disk n.output) (bytes_at disk n.log);
  answers = λ disk given.
      (IsVerified (bytes_at disk n.input) (bytes_at disk n.output) (bytes_at disk n.log) → OrNoMemory given status.Done)
      × (IsNoRun (bytes_at disk n.input) (bytes_at disk n.output) (bytes_at disk n.log) → OrNoMemory given status.LogRefused);
  reads = names_read n;
  writes = [];
  reads_at = turns_read n;
  writes_at = [];
}
