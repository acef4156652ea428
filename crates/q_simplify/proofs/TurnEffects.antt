-- What a turn leaves of the kernel and of the log.
use Rattle.std.proofs.Common.{◌≡◌, ℕ, List, ◌∷◌, refl, sym, ap, subst, Option}
use Rattle.q_logic.specs.declared.rule_bounds.Bounds.{Bounds}
use Rattle.q_logic.specs.Prelude.{PrenexFormula, IsSwept, standard, IsInLimits, measure_of, Target, Applicable}
use Rattle.q_io.specs.Files.{Disk}
use Rattle.q_kernel.specs.Prelude.{Seen, slots, formula_in, IsReady, IsTaken}
use Rattle.q_sched.specs.declared.turns.Turn.{Turn}
use Rattle.q_sched.specs.declared.turns.Turn.TheVariants as turn
use Rattle.q_sched.specs.Settled.{IsDone}
use Rattle.q_sched.specs.Drives.{Driving, SameFrame, Ends, IsSpentAt}
use Rattle.q_simplify.specs.declared.stop.Stop.TheVariants as stop
use Rattle.q_simplify.specs.Logs.{HasLog}
use Rattle.q_simplify.specs.Moves.{IsMove, MovesTo}
use Rattle.q_simplify.specs.Stops.{TurnsEnd}
use Rattle.q_simplify.proofs.LogFile.{same-formula, has_log-led, has_log-same}

-- the log goes on after each turn
pub has_log-turned : (t : Turn) (d : Driving) (F : PrenexFormula) (name : List ℕ) (before : Disk) (j k : Seen) (after : Option Disk) → Ends t d j k → HasLog F name before j after → HasLog F name before k after
has_log-turned turn.Moved d F name before j k after e h = has_log-led F name before j k after h e.2.led
has_log-turned turn.Asked d F name before j k after e h = has_log-same F name before j k after h e.1
has_log-turned turn.Settled d F name before j k after e h = subst (λ (m : Seen). HasLog F name before m after) (sym e.1) h
has_log-turned turn.Spent d F name before j k after e h = subst (λ (m : Seen). HasLog F name before m after) (sym e.2) h
has_log-turned turn.GaveWay d F name before j k after e h = subst (λ (m : Seen). HasLog F name before m after) (sym e) h

pub ready-same : (j k : Seen) → formula_in k ≡ formula_in j → IsReady j → IsReady k
ready-same j k e r =
    record { swept = subst (λ (F : PrenexFormula). IsSwept F) (sym e) r.swept; limits = subst (λ (F : PrenexFormula). IsInLimits standard F) (sym e) r.limits }

pub ready-flushed : (j k : Seen) → k.prefix ≡ j.prefix → slots k ≡ slots j → IsReady j → IsReady k
ready-flushed j k p s r = ready-same j k (same-formula j k p s) r

-- the moves so far go on after each turn, over what no turn changes of the drive
spent-framed : (e d : Driving) (F : PrenexFormula) → SameFrame e d → (¬ IsSpentAt d.budget d.first_measure (measure_of d.bounds F)) → ¬ IsSpentAt e.budget e.first_measure (measure_of e.bounds F)
spent-framed e d F s n =
    subst (λ (B : Bounds). ¬ IsSpentAt e.budget e.first_measure (measure_of B F)) s.bounds
    (subst (λ (g : Option ℕ). ¬ IsSpentAt g e.first_measure (measure_of d.bounds F)) s.budget
    (subst (λ (m : ℕ). ¬ IsSpentAt d.budget m (measure_of d.bounds F)) s.first_measure n))

move-framed : (e d : Driving) (j k : Seen) (t : Target) → SameFrame e d → IsTaken d.bounds j k t → IsMove e.bounds (formula_in j) (formula_in k)
move-framed e d j k t s h =
    record { numbers = slots j; are_clauses = refl; target = t; applies = subst (λ (B : Bounds). Applicable B j.prefix (slots j) t) s.bounds h.applies; result = h.result }

moves-same : (B : Bounds) (budget : Option ℕ) (first : ℕ) (S F G : PrenexFormula) → G ≡ F → MovesTo B budget first S F → MovesTo B budget first S G
moves-same B budget first S F G e m = subst (λ (H : PrenexFormula). MovesTo B budget first S H) (sym e) m

pub moves-turned : (t : Turn) (e d : Driving) (S : PrenexFormula) (j k : Seen) → SameFrame e d → Ends t d j k → MovesTo e.bounds e.budget e.first_measure S (formula_in j) → MovesTo e.bounds e.budget e.first_measure S (formula_in k)
moves-turned turn.Moved e d S j k s h m = (formula_in j ∷ m.0, (spent-framed e d (formula_in j) s h.0, move-framed e d j k h.1 s h.2, m.1))
moves-turned turn.Asked e d S j k s h m = moves-same e.bounds e.budget e.first_measure S (formula_in j) (formula_in k) h.1.formula m
moves-turned turn.Settled e d S j k s h m = moves-same e.bounds e.budget e.first_measure S (formula_in j) (formula_in k) (ap formula_in h.1) m
moves-turned turn.Spent e d S j k s h m = moves-same e.bounds e.budget e.first_measure S (formula_in j) (formula_in k) (ap formula_in h.2) m
moves-turned turn.GaveWay e d S j k s h m = moves-same e.bounds e.budget e.first_measure S (formula_in j) (formula_in k) (ap formula_in h) m

pub moves-flushed : (B : Bounds) (budget : Option ℕ) (first : ℕ) (S : PrenexFormula) (j k : Seen) → k.prefix ≡ j.prefix → slots k ≡ slots j → MovesTo B budget first S (formula_in j) → MovesTo B budget first S (formula_in k)
moves-flushed B budget first S j k p e m = moves-same B budget first S (formula_in j) (formula_in k) (same-formula j k p e) m

-- so the turns end where one says so
pub stops-settled : (t : Turn) (e d : Driving) (i j k : Seen) → t ≡ turn.Settled → SameFrame e d → Ends t d j k → MovesTo e.bounds e.budget e.first_measure (formula_in i) (formula_in j) → TurnsEnd stop.Settled e.bounds e.budget e.first_measure i k
stops-settled t e d i j k q s h m =
    let ends : Ends turn.Settled d j k = subst (λ (x : Turn). Ends x d j k) q h in
    record {
      moves = moves-turned t e d (formula_in i) j k s h m;
      stops = subst (λ (x : Seen). IsDone e.bounds x) (sym ends.1) (subst (λ (B : Bounds). IsDone B j) s.bounds ends.0);
    }

pub stops-spent : (t : Turn) (e d : Driving) (i j k : Seen) → t ≡ turn.Spent → SameFrame e d → Ends t d j k → MovesTo e.bounds e.budget e.first_measure (formula_in i) (formula_in j) → TurnsEnd stop.Spent e.bounds e.budget e.first_measure i k
stops-spent t e d i j k q s h m =
    let ends : Ends turn.Spent d j k = subst (λ (x : Turn). Ends x d j k) q h in
    let same : j ≡ k = sym ends.2 in
    let spent : IsSpentAt e.budget e.first_measure (measure_of e.bounds (formula_in j)) =
    subst (λ (B : Bounds). IsSpentAt e.budget e.first_measure (measure_of B (formula_in j))) s.bounds
    (subst (λ (g : Option ℕ). IsSpentAt g e.first_measure (measure_of d.bounds (formula_in j))) s.budget
    (subst (λ (m : ℕ). IsSpentAt d.budget m (measure_of d.bounds (formula_in j))) s.first_measure ends.0)) in
    record {
      moves = moves-turned t e d (formula_in i) j k s h m;
      stops = (
        subst (λ (x : Seen). IsSpentAt e.budget e.first_measure (measure_of e.bounds (formula_in x))) same spent,
        (λ n. ends.1 (subst (λ (B : Bounds). IsDone B j) (sym s.bounds) (subst (λ (x : Seen). IsDone e.bounds x) ends.2 n))),
      );
    }
