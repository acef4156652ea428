-- Who judges the steps of a proof: it is told by the first step, where hints count.
use Rattle.std.specs.Prelude.{◌≡◌, ◌⊎◌, ℕ, Bool, true, false, is_some, Some}
use Rattle.q_logic.specs.Prelude.{PrenexFormula, ProofPart}
use Rattle.q_hinted.specs.Logs.{Entry as BothEntry}
use Rattle.q_refutation.specs.Refutations.{IsLost}
use Rattle.q_command.specs.declared.part.Part.{Part}
use Rattle.q_run_disprove.specs.HintedReadings.{HintConvicts, HintGoes, IsHintBegun, IsHintUnderWay}
use Rattle.q_run_disprove.specs.Readings.{Convicts, Goes, IsBegun, IsUnderWay, TellsAtOnce}
use Rattle.q_run_disprove.specs.declared.disproved.Disproved.{Disproved}
use Rattle.q_run_disprove.specs.declared.disproved.Disproved.TheVariants as outcome
use Rattle.q_run_disprove.specs.declared.hint_refuter.HintRefuter.{HintRefuter}
use Rattle.q_run_disprove.specs.declared.judge.Judge.{Judge}
use Rattle.q_run_disprove.specs.declared.judge.Judge.TheVariants as judge
use Rattle.q_run_disprove.specs.declared.verdict.Verdict.{Verdict}

-- a judge of no step, of those with proof parts or of those without
abbrev pub IsOpenedAs : Bool → PrenexFormula → Part → Judge → Type 0
IsOpenedAs hinted F p (judge.Open a G q) = ⊥
IsOpenedAs hinted F p (judge.Plain t) = (hinted ≡ false) × IsBegun false p F t
IsOpenedAs hinted F p (judge.Hinted t) = (hinted ≡ true) × IsHintBegun F t

-- where nothing was told, it is told now
abbrev pub Opened : Bool → Judge → Judge → Type 0
Opened hinted (judge.Open a F p) k = IsOpenedAs hinted F p k
Opened hinted (judge.Plain t) k = k ≡ judge.Plain t
Opened hinted (judge.Hinted t) k = k ≡ judge.Hinted t

-- memory is missing, or the empty clause is in IN
abbrev pub Loses : Judge → Verdict → Type 0
Loses (judge.Open a F p) w = TellsAtOnce false F w
Loses (judge.Plain t) w = ⊥
Loses (judge.Hinted t) w = ⊥

-- the steps so far were made, and the empty clause is not there
abbrev pub IsJudging : Judge → Type 0
IsJudging (judge.Open a F p) = ¬ IsLost F
IsJudging (judge.Plain t) = IsUnderWay t
IsJudging (judge.Hinted t) = IsHintUnderWay t

abbrev pub steps_in : Judge → ℕ
steps_in (judge.Open a F p) = 0
steps_in (judge.Plain t) = t.steps
steps_in (judge.Hinted t) = t.steps

-- a step with a proof part is made
abbrev pub HasHinted : BothEntry → HintRefuter → HintRefuter → Type 0
HasHinted e old new = (x : ProofPart) × (e.2 ≡ Some x) × HintGoes e.1 x old new

-- what is said of the next step, which has one
abbrev pub FailsHinted : Verdict → BothEntry → HintRefuter → Type 0
FailsHinted w e t = (w.outcome ≡ outcome.NoMemory) ⊎ ((x : ProofPart) × (e.2 ≡ Some x) × HintConvicts w.outcome t (e.0, e.1) x)

-- a step is made
abbrev pub Takes : BothEntry → Judge → Judge → Type 0
Takes e (judge.Open a F p) k = ⊥
Takes e (judge.Plain t) (judge.Open a F p) = ⊥
Takes e (judge.Plain t) (judge.Plain u) = Goes e.0 e.1 t u
Takes e (judge.Plain t) (judge.Hinted u) = ⊥
Takes e (judge.Hinted t) (judge.Open a F p) = ⊥
Takes e (judge.Hinted t) (judge.Plain u) = ⊥
Takes e (judge.Hinted t) (judge.Hinted u) = HasHinted e t u

-- what is said of the next step
abbrev pub Fails : Verdict → BothEntry → Judge → Type 0
Fails w e (judge.Open a F p) = ⊥
Fails w e (judge.Plain t) = Convicts w t (e.0, e.1)
Fails w e (judge.Hinted t) = FailsHinted w e t

-- the step tells, if nothing was told, and is made
abbrev pub GoesOn : BothEntry → Judge → Judge → Type 0
GoesOn e old new = (k : Judge) × Opened (is_some e.2) old k × Takes e k new

-- or something is said of it
abbrev pub FailsAt : Verdict → BothEntry → Judge → Type 0
FailsAt w e old = Loses old w ⊎ ((k : Judge) × Opened (is_some e.2) old k × Fails w e k)

-- no step follows
abbrev pub EndsBy : Disproved → Verdict → Judge → Type 0
EndsBy o w old = Loses old w ⊎ ((k : Judge) × Opened false old k × (w.outcome ≡ o))
