-- What simplification leaves: a formula and the log that leads to it.
use Rattle.std.specs.Prelude.{◌≡◌, ◌≢◌, ◌⊎◌, ◌↔◌, ◌≤◌, ◌-◌, ℕ, List, [], ◌∷◌, take, Option, Some, None}
use Rattle.std.specs.List.{AllByRecursion}
use Rattle.std.specs.FinMap as map
use Rattle.q_logic.specs.Prelude.{Matrix, PrenexFormula, standard, measure_of, ProofStep, IsSwept, falsity, swept as sweep_of, Run, Holds}
use Rattle.q_io.specs.Files.{Disk, OthersStay, bytes_at}
use Rattle.q_dimacs.specs.Dimacs.{Dimacs}
use Rattle.q_dimacs.specs.Writing.{formula_text}
use Rattle.q_log.specs.Texts.{IsLogged, steps_text}
use Rattle.q_simplify.specs.declared.options.Options.{Options}
use Rattle.q_simplify.specs.declared.report.Report.{Report}
use Rattle.q_simplify.specs.declared.report.Ending.{Ending}
use Rattle.q_simplify.specs.declared.report.Ending.TheVariants as ending
use Rattle.q_simplify.specs.declared.stop.Stop.{Stop}
use Rattle.q_simplify.specs.declared.stop.Stop.TheVariants as stop
use Rattle.q_sched.specs.Settled.{IsSettled}
use Rattle.q_sched.specs.Drives.{IsSpentAt}
use Rattle.q_sched.specs.Alarms.{AlarmView, UnlessRung}
use Rattle.q_simplify.specs.Logs.{MayHoldSteps}
use Rattle.q_simplify.specs.Moves.{MovesTo}
use Rattle.q_simplify.specs.Stops.{IsUndecided}

-- how it ends, by why no further turn comes and by the clauses that are left
abbrev pub by_clauses : Matrix → Ending
by_clauses [] = ending.True
by_clauses ([] ∷ X) = ending.False
by_clauses ((k ∷ C) ∷ X) = ending.Settled

abbrev pub ends_as : Stop → PrenexFormula → Ending
ends_as stop.Spent G = ending.Spent
ends_as stop.Stopped G = ending.Stopped
ends_as stop.Settled G = by_clauses G.matrix

-- how it ended, from F to G: settled, with no clause, with the empty clause or with others; or with the budget spent. By itself no run
-- stops
abbrev pub EndsAs : Ending → Options → PrenexFormula → PrenexFormula → Type 0
EndsAs ending.Settled o F G = IsSettled o.bounds G × (G.matrix ≢ []) × (G ≢ falsity)
EndsAs ending.True o F G = IsSettled o.bounds G × (G.matrix ≡ [])
EndsAs ending.False o F G = IsSettled o.bounds G × (G ≡ falsity)
EndsAs ending.Spent o F G = (¬ IsSettled o.bounds G) × IsSpentAt o.budget (measure_of o.bounds F) (measure_of o.bounds G)
EndsAs ending.Stopped o F G = ⊥

abbrev pub SaysSpent : Ending → Type 0
SaysSpent e = e ≡ ending.Spent

-- the report is that of F and of the swept G, and G is the formula of its text
pub record IsReport (o : Options) (F : PrenexFormula) (r : Report) (G : PrenexFormula) : Type 0 where
  pub swept : IsSwept G
  pub before : r.before ≡ measure_of o.bounds F
  pub after : r.after ≡ measure_of o.bounds G
  pub ending : EndsAs r.ending o F G
  -- it says that the budget is spent exactly where it is and some target applies
  pub spent : SaysSpent r.ending ↔ (IsSpentAt o.budget (measure_of o.bounds F) (measure_of o.bounds G) × ¬ IsSettled o.bounds G)
  -- targets were taken from F, swept, on, each where the budget was not yet spent
  pub moves : MovesTo o.bounds o.budget (measure_of o.bounds F) (sweep_of F) G
  pub readable : Dimacs standard (formula_text G) G

-- the same where an alarm rang: it says so, and nothing of whether a target is left; but a formula that is decided is settled
pub record IsStopped (o : Options) (F : PrenexFormula) (r : Report) (G : PrenexFormula) : Type 0 where
  pub swept : IsSwept G
  pub before : r.before ≡ measure_of o.bounds F
  pub after : r.after ≡ measure_of o.bounds G
  pub ending : r.ending ≡ ending.Stopped
  pub undecided : IsUndecided G
  pub fell : r.after ≤ r.before
  -- targets were taken from F, swept, on, each where the given budget was not yet spent
  pub moves : MovesTo o.bounds o.budget (measure_of o.bounds F) (sweep_of F) G
  -- and so under the budget by which the measure fell, which is just spent
  pub short : MovesTo o.bounds (Some (r.before - r.after)) (measure_of o.bounds F) (sweep_of F) G
  pub readable : Dimacs standard (formula_text G) G

-- the file of the log holds the text of a run from F to G; the steps are those of their text
pub record HoldsRun (F G : PrenexFormula) (log_name : List ℕ) (disk : Disk) : Type 0 where
  pub steps : List ProofStep
  pub run : Run F steps G
  pub logged : AllByRecursion IsLogged steps
  pub bytes : map.get disk log_name ≡ Some (steps_text steps)

-- the log is whole
pub record LeadsTo (F G : PrenexFormula) (log_name : List ℕ) (before : Disk) (after : Option Disk) : Type 0 where
  pub disk : Disk
  pub told : after ≡ Some disk
  pub log : HoldsRun F G log_name disk
  pub others : OthersStay log_name before disk

-- the log is whole, wherever it leads
abbrev pub LogStands : PrenexFormula → List ℕ → Option Disk → Type 0
LogStands F log_name after = (disk : Disk) × (after ≡ Some disk) × (G : PrenexFormula) × HoldsRun F G log_name disk

-- each name but these two is as before
abbrev pub OnlyThese : List ℕ → List ℕ → Disk → Disk → Type 0
OnlyThese output log before after =
    (q : List ℕ) → q ≢ output → q ≢ log → map.get after q ≡ map.get before q

-- the two files hold the texts of a formula, of which this holds, and of steps that lead to it, and the two formulas have one truth value
pub record Writes (Is : PrenexFormula → Type 0) (F : PrenexFormula) (output_name log_name : List ℕ) (before : Disk) (after : Option Disk) : Type 0 where
  pub disk : Disk
  pub told : after ≡ Some disk
  pub result : PrenexFormula
  pub report : Is result
  pub truth : Holds F ↔ Holds result
  pub output : map.get disk output_name ≡ Some (formula_text result)
  pub log : HoldsRun F result log_name disk
  pub others : OnlyThese output_name log_name before disk

-- the files of a run that ends by itself
abbrev pub Simplifies : Options → PrenexFormula → Report → List ℕ → List ℕ → Disk → Option Disk → Type 0
Simplifies o F r output_name log_name before after = Writes (λ G. IsReport o F r G) F output_name log_name before after

-- the files of a run that an alarm stopped
abbrev pub SimplifiesPart : Options → PrenexFormula → Report → List ℕ → List ℕ → Disk → Option Disk → Type 0
SimplifiesPart o F r output_name log_name before after = Writes (λ G. IsStopped o F r G) F output_name log_name before after

-- the log is whole, and the output holds a front of the text of the formula that it leads to
pub record HoldsPart (F : PrenexFormula) (output_name log_name : List ℕ) (disk : Disk) : Type 0 where
  pub result : PrenexFormula
  pub log : HoldsRun F result log_name disk
  pub part : ℕ
  pub bytes : bytes_at disk output_name ≡ take part (formula_text result)

-- what a fault or want of memory leaves: the output is as before until the log is whole
pub record Leaves (F : PrenexFormula) (output_name log_name : List ℕ) (before : Disk) (after : Option Disk) : Type 0 where
  pub disk : Disk
  pub told : after ≡ Some disk
  pub log : MayHoldSteps F log_name before disk
  pub output : (map.get disk output_name ≡ map.get before output_name) ⊎ HoldsPart F output_name log_name disk
  pub others : OnlyThese output_name log_name before disk

-- no budget is given, or one that no fall of the measure passes
abbrev pub IsEnoughFor : Option ℕ → ℕ → Type 0
IsEnoughFor None first = Unit {0}
IsEnoughFor (Some budget) first = first ≤ budget

abbrev pub IsReportUntil : AlarmView → AlarmView → Options → PrenexFormula → Report → PrenexFormula → Type 0
IsReportUntil before after o F r G = UnlessRung before after (IsReport o F r G) (IsStopped o F r G)

-- both files are those of a run that ends by itself or, where the alarm rang, of one that it stopped
abbrev pub SimplifiesUntil : AlarmView → AlarmView → Options → PrenexFormula → Report → List ℕ → List ℕ → Disk → Option Disk → Type 0
SimplifiesUntil first last o F r output_name log_name before after =
    UnlessRung first last (Simplifies o F r output_name log_name before after) (SimplifiesPart o F r output_name log_name before after)
