-- What turns do, and why no further one comes.
use Rattle.std.specs.Prelude.{◌≡◌, ◌≢◌, ◌≤◌, ◌-◌, ℕ, [], Option, Some}
use Rattle.q_logic.specs.declared.rule_bounds.Bounds.{Bounds}
use Rattle.q_logic.specs.Prelude.{PrenexFormula, falsity, measure_of}
use Rattle.q_kernel.specs.Prelude.{Seen, formula_in}
use Rattle.q_sched.specs.Settled.{IsDone}
use Rattle.q_sched.specs.declared.turns.Turn.{Turn}
use Rattle.q_sched.specs.Drives.{Driving, Ends, Falls, IsSpentAt, SameFrame}
use Rattle.q_sched.specs.Alarms.{AlarmView, UnlessRung}
use Rattle.q_simplify.specs.Moves.{MovesTo}
use Rattle.q_simplify.specs.declared.stop.Stop.{Stop}
use Rattle.q_simplify.specs.declared.stop.Stop.TheVariants.{Settled, Spent, Stopped}

-- no target applies, or one does and the budget is spent; no run stops by itself
abbrev pub Stops : Stop → Bounds → Option ℕ → ℕ → Seen → Type 0
Stops Settled B budget first k = IsDone B k
Stops Spent B budget first k = IsSpentAt budget first (measure_of B (formula_in k)) × ¬ IsDone B k
Stops Stopped B budget first k = ⊥

-- targets are taken until it stops
pub record TurnsEnd (last : Stop) (B : Bounds) (budget : Option ℕ) (first : ℕ) (old new : Seen) : Type 0 where
  pub moves : MovesTo B budget first (formula_in old) (formula_in new)
  pub stops : Stops last B budget first new

-- some literal is left: neither no clause nor the empty clause alone
abbrev pub IsUndecided : PrenexFormula → Type 0
IsUndecided F = (F.matrix ≢ []) × (F ≢ falsity)

-- where an alarm rang: of a formula that is decided it is said that no target is left, and of another nothing
abbrev pub Closes : Bounds → Seen → Stop → Type 0
Closes B k Settled = IsDone B k
Closes B k Spent = ⊥
Closes B k Stopped = IsUndecided (formula_in k)

-- targets are taken as under the given budget, and as under the one by which the measure has fallen, which is just spent
pub record StopsShort (last : Stop) (B : Bounds) (budget : Option ℕ) (first : ℕ) (old new : Seen) : Type 0 where
  pub stopped : last ≡ Stopped
  pub undecided : IsUndecided (formula_in new)
  pub fell : measure_of B (formula_in new) ≤ first
  pub moves : MovesTo B budget first (formula_in old) (formula_in new)
  pub short : MovesTo B (Some (first - measure_of B (formula_in new))) first (formula_in old) (formula_in new)

-- targets are taken until it stops, or until an alarm rang
abbrev pub TurnsEndUntil : AlarmView → AlarmView → Stop → Bounds → Option ℕ → ℕ → Seen → Seen → Type 0
TurnsEndUntil before after last B budget first old new =
    UnlessRung before after (TurnsEnd last B budget first old new) (StopsShort last B budget first old new)

-- the same over a drive
abbrev pub TurnsEndFrom : AlarmView → AlarmView → Stop → Driving → Seen → Seen → Type 0
TurnsEndFrom before after last d old new = TurnsEndUntil before after last d.bounds d.budget d.first_measure old new

-- a drive began where the measure was no lower
pub record HasFallen (k : Seen) (d : Driving) : Type 0 where
  pub fell : measure_of d.bounds (formula_in k) ≤ d.first_measure

-- what a turn leaves
pub record IsTurn (answer : Turn) (before : Driving) (old : Seen) (after : Driving) (new : Seen) : Type 0 where
  pub ends : Ends answer before old new
  pub falls : Falls answer before old after new
  pub frame : SameFrame before after
