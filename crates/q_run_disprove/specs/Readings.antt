-- Steps of a proof that are made while it is read, and judged as if they had no proof parts.
use Rattle.std.specs.Prelude.{◌≡◌, ◌≤◌, ◌+◌, ℕ, Bool, true, false, cond, List, [], length}
use Rattle.q_logic.specs.declared.steps.Kind.{Kind}
use Rattle.q_logic.specs.declared.steps.Kind.TheVariants as kind
use Rattle.q_logic.specs.Prelude.{PrenexFormula, AreAlike, ProofStep, after, standard}
use Rattle.q_log.specs.declared.error.LogError.{LogError}
use Rattle.q_log.specs.declared.error.LogError.TheVariants as log
use Rattle.q_log.specs.Logs.{Parsed}
use Rattle.q_judge.specs.declared.error.CheckError.{CheckError}
use Rattle.q_judge.specs.declared.error.CheckError.TheVariants as check
use Rattle.q_shares.specs.Shares.{Share, count}
use Rattle.q_refutation.specs.Refutations.{BadCause, IsLost}
use Rattle.q_refutation.specs.SharedRefutations.{AreTakenUnlost, MayBeTaken, NotTaken}
use Rattle.q_command.specs.Logs.{Entry, steps_of}
use Rattle.q_command.specs.Parts.{share_of}
use Rattle.q_command.specs.declared.part.Part.{Part}
use Rattle.q_run_disprove.specs.SharedDisproofs.{SaysShared}
use Rattle.q_run_disprove.specs.Notes.{AreAbreast, AreLast, AreNotes, IfFalse, IsNoted, ReachEmpty}
use Rattle.q_run_disprove.specs.declared.disproved.Disproved.{Disproved}
use Rattle.q_run_disprove.specs.declared.disproved.Disproved.TheVariants as outcome
use Rattle.q_run_disprove.specs.declared.refuter.Refuter.{Refuter}
use Rattle.q_run_disprove.specs.declared.verdict.Verdict.{Verdict}

-- a step of this kind may bring the empty clause: one is added, or a clause loses a literal
abbrev pub may_bring : Kind → Bool
may_bring kind.Add = true
may_bring kind.Delete = false
may_bring kind.Drop = true
may_bring kind.Fresh = false
may_bring kind.Remove = false

-- what is said of a proof that can't be read on, and of a step that can't be made
abbrev pub log_refused : LogError → Disproved
log_refused (log.BadLine n) = outcome.RefusedLine n 1
log_refused (log.Limit n) = outcome.RefusedLine n 8
log_refused log.NoMemory = outcome.NoMemory

abbrev pub step_refused : ℕ → CheckError → Disproved
step_refused n (check.Refused c) = outcome.RefusedLine n c
step_refused n check.NoMemory = outcome.NoMemory

-- memory may be missing at any time; a refusal carries the least cause
abbrev pub IsBadFor : PrenexFormula → ProofStep → CheckError → Type 0
IsBadFor F s (check.Refused n) = BadCause false standard F s n
IsBadFor F s check.NoMemory = Unit {0}

abbrev pub IsNotTakenFor : Bool → PrenexFormula → ProofStep → CheckError → Type 0
IsNotTakenFor own F s (check.Refused n) = NotTaken own standard F s n
IsNotTakenFor own F s check.NoMemory = Unit {0}

-- whether the next step is one of the part
abbrev pub is_own : Refuter → Bool
is_own t = share_of t.part t.steps

-- one more step, which is one of the part or not
abbrev pub counted : Bool → ℕ → ℕ
counted own n = cond own (n + 1) n

-- the checker has the limits of the program and keeps no undo list, the empty clause is not there, and the notes are as far as the steps
pub record IsUnderWay (t : Refuter) : Type 0 where
  pub limits : t.checker.limits ≡ standard
  pub keeps : t.checker.keeps ≡ false
  pub unlost : ¬ IsLost t.checker.formula
  pub fewer : t.own ≤ t.steps
  pub abreast : AreAbreast t.part t.checker.formula t.notes

-- no step is made
pub record IsBegun (keeps : Bool) (part : Part) (F : PrenexFormula) (t : Refuter) : Type 0 where
  pub under_way : IsUnderWay t
  pub alike : AreAlike F t.checker.formula
  pub part_is : t.part ≡ part
  pub none : t.steps ≡ 0
  pub no_own : t.own ≡ 0
  pub notes : AreNotes keeps F [] t.notes

-- what is said before the first step
abbrev pub SaysAtOnce : PrenexFormula → Disproved → Type 0
SaysAtOnce F (outcome.False n) = IsLost F × (n ≡ 0)
SaysAtOnce F (outcome.RefusedLine n c) = ⊥
SaysAtOnce F outcome.RefusedEnd = ⊥
SaysAtOnce F (outcome.RefusedInput n c) = ⊥
SaysAtOnce F outcome.ReadFault = ⊥
SaysAtOnce F outcome.NoMemory = Unit {0}

pub record TellsAtOnce (keeps : Bool) (F : PrenexFormula) (v : Verdict) : Type 0 where
  pub says : SaysAtOnce F v.outcome
  pub notes : IfFalse v.outcome (AreNotes keeps F [] v.notes)

-- circuits can be made of the notes, where the formula is said to be false
abbrev pub IsReady : Verdict → Type 0
IsReady v = IfFalse v.outcome (ReachEmpty v.notes)

-- one step more, of this line, is made, and the empty clause is not there
pub record Goes (line : ℕ) (s : ProofStep) (old new : Refuter) : Type 0 where
  pub may : MayBeTaken (is_own old) standard old.checker.formula s
  pub alike : AreAlike (after old.checker.formula s) new.checker.formula
  pub under_way : IsUnderWay new
  pub part : new.part ≡ old.part
  pub steps : new.steps ≡ old.steps + 1
  pub own : new.own ≡ counted (is_own old) old.own
  pub noted : IsNoted line s old.notes new.notes

-- what is said of the next step: the empty clause comes by it, or it is not taken
abbrev pub SaysNext : Disproved → Refuter → Entry → Type 0
SaysNext (outcome.False n) t e =
    MayBeTaken (is_own t) standard t.checker.formula e.1 × IsLost (after t.checker.formula e.1) × (n ≡ counted (is_own t) t.own)
SaysNext (outcome.RefusedLine n c) t e = (n ≡ e.0) × NotTaken (is_own t) standard t.checker.formula e.1 c
SaysNext outcome.RefusedEnd t e = ⊥
SaysNext (outcome.RefusedInput n c) t e = ⊥
SaysNext outcome.ReadFault t e = ⊥
SaysNext outcome.NoMemory t e = Unit {0}

-- with its notes, where the empty clause comes
pub record Convicts (v : Verdict) (t : Refuter) (e : Entry) : Type 0 where
  pub says : SaysNext v.outcome t e
  pub noted : IfFalse v.outcome (IsNoted e.0 e.1 t.notes v.notes)

-- what is told of a formula and a proof, and with which notes
pub record SaysWith (keeps : Bool) (j : Share) (v : Verdict) (F : PrenexFormula) (p : Parsed) : Type 0 where
  pub says : SaysShared j v.outcome F p
  pub notes : IfFalse v.outcome (AreLast keeps j F p v.notes)

-- these steps are made from F on, those of the share were judged, and the empty clause was never there
pub record IsSoFar (keeps : Bool) (j : Share) (F : PrenexFormula) (es : List Entry) (t : Refuter) : Type 0 where
  pub last : PrenexFormula
  pub share : share_of t.part ≡ j
  pub made : AreTakenUnlost j standard 0 F (steps_of es) last
  pub alike : AreAlike last t.checker.formula
  pub all : t.steps ≡ length es
  pub own : t.own ≡ count j 0 (steps_of es)
  pub notes : AreNotes keeps F es t.notes
