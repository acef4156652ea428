-- The two files together.
use Rattle.std.proofs.Common.{◌≡◌, ◌≢◌, ◌≤◌, inl, inr, ℕ, List, [], arith, refl, sym, ap, ◌∙◌, subst, length, take, append-nil, Option, Some, None, unwrap_or, IfSome}
use Rattle.std.proofs.Math.Seq.{take-append_seam}
use Rattle.std.specs.FinMap as map
use Rattle.q_logic.specs.Prelude.{PrenexFormula, IsProper, size_of, measure_of}
use Rattle.q_logic.proofs.Common.{Run-justified}
use Rattle.q_logic.proofs.Repeated.{run-true_to}
use Rattle.q_io.specs.Files.{Disk, HoldsBytes, MayEmpty, MayHoldFront}
use Rattle.q_log.specs.Texts.{steps_text}
use Rattle.q_simplify.specs.declared.options.Options.{Options}
use Rattle.q_simplify.specs.declared.report.Report.{Report}
use Rattle.q_sched.specs.Alarms.{AlarmView}
use Rattle.q_simplify.specs.Logs.{HoldsFront, LeavesLog}
use Rattle.q_simplify.specs.Results.{IsReport, IsReportUntil, IsStopped, IsEnoughFor, EndsAs, HoldsRun, LeadsTo, LogStands, Writes, SimplifiesUntil, Leaves}
use Rattle.q_dimacs.specs.Writing.{formula_text}
use Rattle.q_sched.specs.Settled.{IsSettled}
use Rattle.q_sched.specs.Drives.{IsSpentAt}
use Rattle.q_simplify.specs.declared.report.Ending.{Ending}
use Rattle.q_simplify.specs.declared.report.Ending.TheVariants as ending
use Rattle.q_io.proofs.StoreContents.{at_some}
use Rattle.q_simplify.proofs.Decided.{nothing-settled, small-nothing}
use Rattle.q_simplify.proofs.StopReasons.{swept-numbered}

-- the log stays where another file is written
pub kept-run : (F G : PrenexFormula) (ln : List ℕ) (c d : Disk) → map.get d ln ≡ map.get c ln → HoldsRun F G ln c → HoldsRun F G ln d
kept-run F G ln c d e h = record { steps = h.steps; run = h.run; logged = h.logged; bytes = e ∙ h.bytes }

pub whole-front : (F G : PrenexFormula) (ln : List ℕ) (d : Disk) → HoldsRun F G ln d → HoldsFront F ln d
whole-front F G ln d h =
    record {
      steps = h.steps;
      logged = h.logged;
      last = h.run.last;
      valid = h.run.steps;
      part = length (steps_text h.steps);
      bytes = ap (λ o. unwrap_or o []) h.bytes ∙ (sym (take-append_seam (steps_text h.steps) []) ∙ ap (λ xs. take (length (steps_text h.steps)) xs) (append-nil (steps_text h.steps)));
    }

pub writes : (Is : PrenexFormula → Type 0) (F G : PrenexFormula) (on ln : List ℕ) (before : Disk) (mid after : Option Disk) → on ≢ ln → IsProper F → Is G → LeadsTo F G ln before mid → IfSome mid (λ disk. HoldsBytes on (formula_text G) disk after) → Writes Is F on ln before after
writes Is F G on ln before mid after n p i l w =
    let t : HoldsBytes on (formula_text G) l.disk after = at_some _ mid w l.disk l.told in
    record {
      disk = t.disk;
      told = t.told;
      result = G;
      report = i;
      truth = run-true_to F l.log.steps G p.formula (Run-justified F l.log.steps G l.log.run);
      output = t.bytes;
      log = kept-run F G ln l.disk t.disk (t.others ln (λ e. n (sym e))) l.log;
      others = λ q a b. t.others q a ∙ l.others q b;
    }

-- where an alarm may have stopped the run
pub simplifies-until : (a b : AlarmView) (o : Options) (F G : PrenexFormula) (r : Report) (on ln : List ℕ) (before : Disk) (mid after : Option Disk) → on ≢ ln → IsProper F → IsReportUntil a b o F r G → LeadsTo F G ln before mid → IfSome mid (λ disk. HoldsBytes on (formula_text G) disk after) → SimplifiesUntil a b o F r on ln before after
simplifies-until a b o F G r on ln before mid after n p (inl i) l w = inl (writes (λ (H : PrenexFormula). IsReport o F r H) F G on ln before mid after n p i l w)
simplifies-until a b o F G r on ln before mid after n p (inr (z, i)) l w = inr (z, writes (λ (H : PrenexFormula). IsStopped o F r H) F G on ln before mid after n p i l w)

-- the log could not be created
pub leaves-not_created : (F : PrenexFormula) (on ln : List ℕ) (before : Disk) (after : Option Disk) → on ≢ ln → MayEmpty ln before after → Leaves F on ln before after
leaves-not_created F on ln before after n m =
    record {
      disk = m.disk;
      told = m.told;
      log = elim m.bytes [ inl e ↦ inl e | inr e ↦ inr (record { steps = []; logged = tt; last = F; valid = refl; part = 0; bytes = ap (λ o. unwrap_or o []) e }) ];
      output = inl (m.others on n);
      others = λ q a b. m.others q b;
    }

pub leaves-log : (F : PrenexFormula) (on ln : List ℕ) (before : Disk) (after : Option Disk) → on ≢ ln → LeavesLog F ln before after → Leaves F on ln before after
leaves-log F on ln before after n l =
    record { disk = l.disk; told = l.told; log = l.log; output = inl (l.others on n); others = λ q a b. l.others q b }

pub leaves-part : (F G : PrenexFormula) (on ln : List ℕ) (before : Disk) (mid after : Option Disk) → on ≢ ln → LeadsTo F G ln before mid → IfSome mid (λ disk. MayHoldFront on (formula_text G) disk after) → Leaves F on ln before after
leaves-part F G on ln before mid after n l w =
    let t : MayHoldFront on (formula_text G) l.disk after = at_some _ mid w l.disk l.told in
    let run : HoldsRun F G ln t.disk = kept-run F G ln l.disk t.disk (t.others ln (λ e. n (sym e))) l.log in
    record {
      disk = t.disk;
      told = t.told;
      log = inr (whole-front F G ln t.disk run);
      output = elim t.bytes [
        | inl e ↦ inl (e ∙ l.others on n)
        | inr e ↦ inr (record { result = G; log = run; part = e.0; bytes = e.1 })
      ];
      others = λ q a b. t.others q a ∙ l.others q b;
    }

-- the log stays where the output could not be written
pub log-stands : (F G : PrenexFormula) (on ln : List ℕ) (before : Disk) (mid after : Option Disk) → on ≢ ln → LeadsTo F G ln before mid → IfSome mid (λ disk. MayHoldFront on (formula_text G) disk after) → LogStands F ln after
log-stands F G on ln before mid after n l w =
    let t : MayHoldFront on (formula_text G) l.disk after = at_some _ mid w l.disk l.told in
    (t.disk, t.told, G, kept-run F G ln l.disk t.disk (t.others ln (λ e. n (sym e))) l.log)

-- whole files hold such fronts
pub leaves-whole : (Is : PrenexFormula → Type 0) (F : PrenexFormula) (on ln : List ℕ) (before : Disk) (after : Option Disk) → Writes Is F on ln before after → Leaves F on ln before after
leaves-whole Is F on ln before after s =
    record {
      disk = s.disk;
      told = s.told;
      log = inr (whole-front F s.result ln s.disk s.log);
      output = inr (record {
        result = s.result;
        log = s.log;
        part = length (formula_text s.result);
        bytes = ap (λ b. unwrap_or b []) s.output ∙ (sym (take-append_seam (formula_text s.result) []) ∙ ap (λ xs. take (length (formula_text s.result)) xs) (append-nil (formula_text s.result)));
      });
      others = s.others;
    }

-- a budget that the measure does not pass is not spent
pub never-spent : (o : Options) (F G : PrenexFormula) (r : Report) → IsReport o F r G → r.ending ≡ ending.Spent → IsEnoughFor o.budget (measure_of o.bounds F) → ⊥
never-spent o F G r i e n =
    let s : (¬ IsSettled o.bounds G) × IsSpentAt o.budget (measure_of o.bounds F) (measure_of o.bounds G) = subst (λ (x : Ending). EndsAs x o F G) e i.ending in
    go o.budget n s.1 s.0
  where
    go : (b : Option ℕ) → IsEnoughFor b (measure_of o.bounds F) → IsSpentAt b (measure_of o.bounds F) (measure_of o.bounds G) → (¬ IsSettled o.bounds G) → ⊥
    go None n s t = s
    go (Some b) n s t =
        let z : size_of G.matrix ≤ 0 = grind arith in
        t (swept-numbered G i.swept, nothing-settled o.bounds G.prefix G.matrix (small-nothing G.matrix z) i.swept)
