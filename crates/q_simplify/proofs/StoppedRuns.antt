-- A run that is stopped is one whose budget was spent there: each formula before a move has a larger measure than all that come
-- after it.
use Rattle.std.proofs.Common.{◌≡◌, ◌≤◌, ◌+◌, ◌-◌, inl, inr, ℕ, List, [], ◌∷◌, Option, Some, refl, sym, subst, arith}
use Rattle.q_logic.specs.declared.rule_bounds.Bounds.{Bounds}
use Rattle.q_logic.specs.Prelude.{PrenexFormula, live, formula_of, result_of, AreAlike, measure_of, Prefix}
use Rattle.q_logic.proofs.MeasureFalls.{measure-alike}
use Rattle.q_logic.proofs.TargetRuns.{target-falls}
use Rattle.q_kernel.specs.Prelude.{Seen, formula_in}
use Rattle.q_sched.specs.Drives.{Driving}
use Rattle.q_sched.specs.Alarms.{AlarmView, Rang}
use Rattle.q_simplify.specs.Moves.{IsMove, MovesOver, MovesTo}
use Rattle.q_simplify.specs.Stops.{Closes, HasFallen, TurnsEndFrom}
use Rattle.q_simplify.specs.declared.stop.Stop.{Stop}
use Rattle.q_simplify.specs.declared.stop.Stop.TheVariants as stop

alike-measure : (B : Bounds) (F G : PrenexFormula) → AreAlike F G → measure_of B F ≡ measure_of B G
alike-measure B F G a = subst (λ (P : Prefix). measure_of B F ≡ measure_of B (formula_of P G.matrix)) a.prefix (measure-alike B F.prefix F.matrix G.matrix a.clauses)

move-falls : (B : Bounds) (F G : PrenexFormula) → IsMove B F G → measure_of B G + 1 ≤ measure_of B F
move-falls B F G m =
    let e : measure_of B (result_of F.prefix m.numbers m.target) ≡ measure_of B G = alike-measure B (result_of F.prefix m.numbers m.target) G m.result in
    let f : measure_of B (result_of F.prefix m.numbers m.target) + 1 ≤ measure_of B (formula_of F.prefix (live m.numbers)) = target-falls B F.prefix m.numbers m.target m.applies.fits in
    let h : measure_of B (result_of F.prefix m.numbers m.target) + 1 ≤ measure_of B F =
    subst (λ (H : PrenexFormula). measure_of B (result_of F.prefix m.numbers m.target) + 1 ≤ measure_of B H) m.are_clauses f in
    subst (λ (n : ℕ). n + 1 ≤ measure_of B F) e h

-- the measure at the end is at most that at the start
moves-fall : (B : Bounds) (budget : Option ℕ) (first : ℕ) (S : PrenexFormula) (passed : List PrenexFormula) (G : PrenexFormula) →
    MovesOver B budget first S passed G → measure_of B G ≤ measure_of B S
moves-fall B budget first S [] G m = subst (λ (H : PrenexFormula). measure_of B H ≤ measure_of B S) (sym m) (omega arith)
moves-fall B budget first S (F ∷ passed) G m = fewer (measure_of B G) (measure_of B F) (measure_of B S) (move-falls B F G m.1) (moves-fall B budget first S passed F m.2)
  where
    fewer : (x y z : ℕ) → x + 1 ≤ y → y ≤ z → x ≤ z
    fewer x y z a b = omega arith

-- under a budget that is spent where the measure is at most `low`, all moves from above it are still there
moves-above : (B : Bounds) (budget : Option ℕ) (first low : ℕ) (S : PrenexFormula) (passed : List PrenexFormula) (G : PrenexFormula) →
    low ≤ measure_of B G → low ≤ first → MovesOver B budget first S passed G → MovesOver B (Some (first - low)) first S passed G
moves-above B budget first low S [] G l f m = m
moves-above B budget first low S (F ∷ passed) G l f m = (
  not-spent first low (measure_of B G) (measure_of B F) l f (move-falls B F G m.1),
  m.1,
  moves-above B budget first low S passed F (higher low (measure_of B G) (measure_of B F) l (move-falls B F G m.1)) f m.2,
)
  where
    not-spent : (first low now before : ℕ) → low ≤ now → low ≤ first → now + 1 ≤ before → ¬ (before + (first - low) ≤ first)
    not-spent first low now before l f m h = omega arith

    higher : (low now before : ℕ) → low ≤ now → now + 1 ≤ before → low ≤ before
    higher low now before l m = omega arith

moves-fell : (B : Bounds) (budget : Option ℕ) (first : ℕ) (S G : PrenexFormula) → MovesTo B budget first S G → measure_of B S ≤ first → measure_of B G ≤ first
moves-fell B budget first S G m s = below (measure_of B G) (measure_of B S) first (moves-fall B budget first S m.0 G m.1) s
  where
    below : (x y z : ℕ) → x ≤ y → y ≤ z → x ≤ z
    below x y z a b = omega arith

-- targets are taken from S on up to G, under any budget or none: then they are under the budget by which the measure has fallen,
-- which is spent at G, and at no formula before a move
moves-short : (B : Bounds) (budget : Option ℕ) (first : ℕ) (S G : PrenexFormula) → MovesTo B budget first S G → measure_of B S ≤ first → MovesTo B (Some (first - measure_of B G)) first S G
moves-short B budget first S G m s = (m.0, moves-above B budget first (measure_of B G) S m.0 G (omega arith) (moves-fell B budget first S G m s) m.1)

-- where the alarm rang
pub rang-stops : (a b : AlarmView) (s : Stop) (d : Driving) (i j : Seen) → Rang a b → HasFallen i d → MovesTo d.bounds d.budget d.first_measure (formula_in i) (formula_in j) → Closes d.bounds j s → TurnsEndFrom a b s d i j
rang-stops a b stop.Settled d i j r f m c = inl (record { moves = m; stops = c })
rang-stops a b stop.Spent d i j r f m c = absurd c
rang-stops a b stop.Stopped d i j r f m c = inr (
  r,
  record {
    stopped = refl;
    undecided = c;
    fell = moves-fell d.bounds d.budget d.first_measure (formula_in i) (formula_in j) m f.fell;
    moves = m;
    short = moves-short d.bounds d.budget d.first_measure (formula_in i) (formula_in j) m f.fell;
  },
)
