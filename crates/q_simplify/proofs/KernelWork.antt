-- The whole work over one kernel.
use Rattle.std.proofs.Common.{◌≡◌, ◌≤◌, ◌<◌, ◌-◌, ℕ, List, [], ◌∷◌, refl, sym, ap, ◌∙◌, subst, arith, length, inl, inr, unwrap_or, Option, Some, Result, Ok, Err, IfOk}
use Rattle.q_logic.specs.Prelude.{Matrix, Prefix, PrenexFormula, standard, IsInLimits, IsProper, live, formula_of, measure_of, IsSwept, swept}
use Rattle.q_logic.specs.declared.rule_bounds.Bounds.{Bounds}
use Rattle.q_logic.proofs.Common.{sweep-twice, swept-in_limits}
use Rattle.q_logic.proofs.Measures.{measure-sweep}
use Rattle.q_io.specs.Files.{Disk, Empties}
use Rattle.q_kernel.specs.Prelude.{Seen, slots, formula_in, IsSound, IsLed, IsReady}
use Rattle.q_simplify.specs.declared.options.Options.{Options}
use Rattle.q_simplify.specs.declared.stop.Stop.{Stop}
use Rattle.q_simplify.specs.declared.report.Report.{Report}
use Rattle.q_simplify.specs.declared.report.Ending.{Ending}
use Rattle.q_sched.specs.Alarms.{AlarmView}
use Rattle.q_simplify.specs.Moves.{MovesTo}
use Rattle.q_simplify.specs.Stops.{IsUndecided, StopsShort, TurnsEnd, TurnsEndUntil}
use Rattle.q_simplify.specs.Logs.{HasLog, LeavesLog}
use Rattle.q_simplify.specs.Results.{IsReport, IsReportUntil, IsStopped, EndsAs, ends_as}
use Rattle.q_simplify.proofs.LogFile.{has_log-begin, has_log-led, has_log-left, same-formula}
use Rattle.q_dimacs.specs.Dimacs.{Dimacs}
use Rattle.q_dimacs.specs.Writing.{formula_text}
use Rattle.q_simplify.proofs.StopReasons.{ends, spent-exactly}

pub swept-ready : (j k : Seen) → formula_in k ≡ swept (formula_in j) → IsInLimits standard (formula_in j) → IsReady k
swept-ready j k e l =
    record {
      swept = subst (λ (F : PrenexFormula). IsSwept F) (sym e) (sweep-twice (formula_in j));
      limits = subst (λ (F : PrenexFormula). IsInLimits standard F) (sym e) (swept-in_limits standard (formula_in j) l);
    }

-- a sweep raises no measure
pub swept-fell : (B : Bounds) (first : ℕ) (j k : Seen) → first ≡ measure_of B (formula_in j) → formula_in k ≡ swept (formula_in j) → measure_of B (formula_in k) ≤ first
swept-fell B first j k b e =
    subst (λ (n : ℕ). measure_of B (formula_in k) ≤ n) (sym b) (subst (λ (F : PrenexFormula). measure_of B F ≤ measure_of B (formula_in j)) (sym e) (measure-sweep B (formula_in j)))

-- nothing was done yet
pub begin-left : (name : List ℕ) (before : Disk) (k : Seen) (held : Option Disk) → k.text ≡ [] → Empties name before held → LeavesLog (formula_in k) name before held
begin-left name before k held t e = has_log-left (formula_in k) name before k held (has_log-begin (formula_in k) name before k held e refl t)

-- swept
pub begin-swept : (name : List ℕ) (before : Disk) (j k : Seen) (held : Option Disk) → j.text ≡ [] → IsLed j k → Empties name before held → HasLog (formula_in j) name before k held
begin-swept name before j k held t d e = has_log-led (formula_in j) name before j k held (has_log-begin (formula_in j) name before j held e refl t) d

pub no_bytes : (text : List ℕ) → length text < 1 → text ≡ []
no_bytes [] h = refl
no_bytes (x ∷ xs) h = absurd (omega arith)

-- the moves of a drive from the swept kernel j on are those from the swept F
moves-all : (B : Bounds) (budget : Option ℕ) (F G : PrenexFormula) (j k : Seen) (first : ℕ) → formula_in j ≡ swept F → G ≡ formula_in k → first ≡ measure_of B F → MovesTo B budget first (formula_in j) (formula_in k) → MovesTo B budget (measure_of B F) (swept F) G
moves-all B budget F G j k first start g b m =
    subst (λ (n : ℕ). MovesTo B budget n (swept F) G) b (subst (λ (H : PrenexFormula). MovesTo B budget first H G) start (subst (λ (H : PrenexFormula). MovesTo B budget first (formula_in j) H) (sym g) m))

-- the report, where the kernel j is swept, k is that of the end of the turns and m that of the flushed log
pub reports : ((H : PrenexFormula) → IsProper H → IsInLimits standard H → Dimacs standard (formula_text H) H) → (o : Options) (F G : PrenexFormula) (j k m : Seen) (last : Stop) (r : Report) → formula_in j ≡ swept F → IsReady k → TurnsEnd last o.bounds o.budget r.before j k → m.prefix ≡ k.prefix → slots m ≡ slots k → IsSound m → G ≡ formula_in m → r.before ≡ measure_of o.bounds F → r.after ≡ measure_of o.bounds (formula_in m) → r.ending ≡ ends_as last G → IsReport o F r G
reports read o F G j k m last r start d s p q w g b a e =
    let gk : G ≡ formula_in k = g ∙ same-formula k m p q in
    let how : EndsAs r.ending o F G = subst (λ (x : Ending). EndsAs x o F G) (sym e) (ends last o r.before F G k b gk d.swept s.stops) in
    record {
      swept = subst (λ (H : PrenexFormula). IsSwept H) (sym gk) d.swept;
      before = b;
      after = a ∙ ap (λ (H : PrenexFormula). measure_of o.bounds H) (sym g);
      ending = how;
      spent = spent-exactly r.ending o F G how;
      moves = moves-all o.bounds o.budget F G j k r.before start gk b s.moves;
      readable = read G (subst (λ (H : PrenexFormula). IsProper H) (sym g) w.proper) (subst (λ (H : PrenexFormula). IsInLimits standard H) (sym gk) d.limits);
    }

-- the same where an alarm stopped the turns
stops : ((H : PrenexFormula) → IsProper H → IsInLimits standard H → Dimacs standard (formula_text H) H) → (o : Options) (F G : PrenexFormula) (j k m : Seen) (last : Stop) (r : Report) → formula_in j ≡ swept F → IsReady k → StopsShort last o.bounds o.budget r.before j k → m.prefix ≡ k.prefix → slots m ≡ slots k → IsSound m → G ≡ formula_in m → r.before ≡ measure_of o.bounds F → r.after ≡ measure_of o.bounds (formula_in m) → r.ending ≡ ends_as last G → IsStopped o F r G
stops read o F G j k m last r start d s p q w g b a e =
    let gk : G ≡ formula_in k = g ∙ same-formula k m p q in
    let after : measure_of o.bounds (formula_in k) ≡ r.after = ap (λ (H : PrenexFormula). measure_of o.bounds H) (sym (same-formula k m p q)) ∙ sym a in
    record {
      swept = subst (λ (H : PrenexFormula). IsSwept H) (sym gk) d.swept;
      before = b;
      after = a ∙ ap (λ (H : PrenexFormula). measure_of o.bounds H) (sym g);
      ending = e ∙ ap (λ (l : Stop). ends_as l G) s.stopped;
      undecided = subst (λ (H : PrenexFormula). IsUndecided H) (sym gk) s.undecided;
      fell = subst (λ (n : ℕ). n ≤ r.before) after s.fell;
      moves = moves-all o.bounds o.budget F G j k r.before start gk b s.moves;
      short = moves-all o.bounds (Some (r.before - r.after)) F G j k r.before start gk b (subst (λ (n : ℕ). MovesTo o.bounds (Some (r.before - n)) r.before (formula_in j) (formula_in k)) after s.short);
      readable = read G (subst (λ (H : PrenexFormula). IsProper H) (sym g) w.proper) (subst (λ (H : PrenexFormula). IsInLimits standard H) (sym gk) d.limits);
    }

pub reports-until : (a b : AlarmView) → ((H : PrenexFormula) → IsProper H → IsInLimits standard H → Dimacs standard (formula_text H) H) → (o : Options) (F G : PrenexFormula) (j k m : Seen) (last : Stop) (r : Report) → formula_in j ≡ swept F → IsReady k → TurnsEndUntil a b last o.bounds o.budget r.before j k → m.prefix ≡ k.prefix → slots m ≡ slots k → IsSound m → G ≡ formula_in m → r.before ≡ measure_of o.bounds F → r.after ≡ measure_of o.bounds (formula_in m) → r.ending ≡ ends_as last G → IsReportUntil a b o F r G
reports-until a b read o F G j k m last r start d (inl s) p q w g x y e = inl (reports read o F G j k m last r start d s p q w g x y e)
reports-until a b read o F G j k m last r start d (inr (z, s)) p q w g x y e = inr (z, stops read o F G j k m last r start d s p q w g x y e)

-- the kernel that a formula was made into
pub started : {E : Type 0} (F : PrenexFormula) (r : Result Seen E) → IfOk r (λ k. k.prefix ≡ F.prefix) → IfOk r (λ k. live (slots k) ≡ F.matrix) → IfOk r (λ k. formula_in k ≡ F)
started F (Ok k) p m = ap (λ (X : Matrix). formula_of k.prefix X) m ∙ ap (λ (P : Prefix). formula_of P F.matrix) p
started F (Err e) p m = tt

pub begin-formula_left : (F : PrenexFormula) (name : List ℕ) (before : Disk) (held : Option Disk) → Empties name before held → LeavesLog F name before held
begin-formula_left F name before held e =
    record { disk = e.disk; told = e.told; log = inr (record { steps = []; logged = tt; last = F; valid = refl; part = 0; bytes = ap (λ o. unwrap_or o []) e.bytes }); others = e.others }
