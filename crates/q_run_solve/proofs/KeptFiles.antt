-- Files that stay, and fronts of files that are whole.
use Rattle.std.proofs.Common.{◌≡◌, ◌≢◌, ◌⊎◌, inl, inr, ◌∙◌, sym, ap, ℕ, List, [], length, take, unwrap_or, Option, Some}
use Rattle.std.proofs.Math.Seq.{take-length}
use Rattle.std.specs.FinMap as map
use Rattle.q_logic.specs.Prelude.{PrenexFormula, CertificateView, nothing}
use Rattle.q_io.specs.Files.{Disk, bytes_at}
use Rattle.q_dimacs.specs.Writing.{formula_text}
use Rattle.q_log.specs.Texts.{steps_text}
use Rattle.q_logic.proofs.SearchCounts.{few}
use Rattle.q_logic.specs.Decisions.{verdict}
use Rattle.q_sched.specs.Settled.{IsSettled}
use Rattle.q_simplify.specs.declared.report.Ending.{Ending}
use Rattle.q_simplify.specs.declared.report.Ending.TheVariants as ending
use Rattle.q_simplify.specs.Logs.{MayHoldSteps}
use Rattle.q_simplify.specs.Results.{EndsAs, HoldsRun, HoldsPart}
use Rattle.q_simplify.proofs.BothFiles.{kept-run, whole-front}
use Rattle.q_command.specs.Checks.{IsFileOf}
use Rattle.q_command.specs.Texts.{MayHoldCircuits}
use Rattle.q_run_solve.specs.declared.solved.Solved.{Solved}
use Rattle.q_run_solve.specs.declared.solved.Solved.TheVariants.{True, False, Unknown, RefusedInput, ReadFault, WriteFault, NoMemory}
use Rattle.q_run_solve.specs.Reduces.{plain_options, IsSimplified, HoldsBoth, HoldsLog, MayHoldBoth, out_name, log_name}
use Rattle.q_run_solve.specs.Solves.{SolveFiles, IsReduced, AreCircuitsOf, HoldsAnswerFront, SameAt, IsDone, IsLeft, IsLogged, Solves, Concludes}

-- without a budget it ends settled
ends-settled : (x : Ending) (F G : PrenexFormula) → EndsAs x plain_options F G → IsSettled plain_options.bounds G
ends-settled ending.Settled F G h = h.0
ends-settled ending.True F G h = h.0
ends-settled ending.False F G h = h.0
ends-settled ending.Spent F G h = absurd h.1
ends-settled ending.Stopped F G h = absurd h

-- the bytes of a name that holds some
pub held-bytes : (disk : Disk) (name text : List ℕ) → map.get disk name ≡ Some text → bytes_at disk name ≡ text
held-bytes disk name text e = ap (λ (o : Option (List ℕ)). unwrap_or o []) e

-- the text of the log in memory
log-text : (F G : PrenexFormula) (m : Disk) → (s : IsSimplified F G m) → bytes_at m log_name ≡ steps_text s.log.steps
log-text F G m s = held-bytes m log_name (steps_text s.log.steps) s.log.bytes

out-text : (F G : PrenexFormula) (m : Disk) → IsSimplified F G m → bytes_at m out_name ≡ formula_text G
out-text F G m s = held-bytes m out_name (formula_text G) s.output

-- whole files are fronts
pub whole-left : (n : SolveFiles) (before d : Disk) (after : Option Disk) (F G : PrenexFormula) → after ≡ Some d → IsReduced n before d F G → SameAt n.cert before d ⊎ HoldsAnswerFront n.cert F d → IsLeft n before after
whole-left n before d after F G t r c = record {
  disk = d;
  told = t;
  from = F;
  is_input = r.is_input;
  log_is = inr (whole-front F G n.log d r.log_is);
  out_is = inr (record { result = G; log = r.log_is; part = length (formula_text G); bytes = held-bytes d n.output (formula_text G) r.out_is ∙ sym (take-length (formula_text G)) });
  cert_is = c;
  others = r.others;
}

module _ (n : SolveFiles) (before : Disk) (F G : PrenexFormula) (m : Disk) (input : IsFileOf (bytes_at before n.input) F) (s : IsSimplified F G m) (oc : n.output ≢ n.cert) (lc : n.log ≢ n.cert) where
  run-at : (d : Disk) → map.get d n.log ≡ Some (bytes_at m log_name) → HoldsRun F G n.log d
  run-at d e = record { steps = s.log.steps; run = s.log.run; logged = s.log.logged; bytes = e ∙ ap Some (log-text F G m s) }

  -- both files are written
  pub reduced-at : (after : Option Disk) → (b : HoldsBoth n.output n.log (bytes_at m out_name) (bytes_at m log_name) before after) → IsReduced n before b.disk F G
  reduced-at after b = record {
    is_input = input;
    report = s.report;
    reported = s.reported;
    settled = ends-settled s.report.ending F G s.reported.ending;
    truth = s.truth;
    out_is = b.out_is ∙ ap Some (out-text F G m s);
    log_is = run-at b.disk b.log_is;
    few = few (verdict G.matrix) G.prefix nothing;
    others = λ q a c d. b.others q a c;
  }

  -- they stay where CERT is written
  reduced-on : (c d : Disk) → ((q : List ℕ) → q ≢ n.cert → map.get d q ≡ map.get c q) → IsReduced n before c F G → IsReduced n before d F G
  reduced-on c d k r = record {
    is_input = r.is_input;
    report = r.report;
    reported = r.reported;
    settled = r.settled;
    truth = r.truth;
    out_is = k n.output oc ∙ r.out_is;
    log_is = kept-run F G n.log c d (k n.log lc) r.log_is;
    few = r.few;
    others = λ q x y z. k q z ∙ r.others q x y z;
  }

  -- the log is
  pub logged-at : (after : Option Disk) → HoldsLog n.log (bytes_at m log_name) after → IsLogged n before after
  logged-at after (d, t, e) = record { disk = d; told = t; from = F; to = G; is_input = input; log_is = run-at d e }

  -- a fault or want of memory while they are written
  pub left-part : (after : Option Disk) → MayHoldBoth n.output n.log (bytes_at m out_name) (bytes_at m log_name) before after → IsLeft n before after
  left-part after b = record {
    disk = b.disk;
    told = b.told;
    from = F;
    is_input = input;
    log_is = log-part b.log_is;
    out_is = out-part b.out_is;
    cert_is = inl (b.others n.cert (λ e. oc (sym e)) (λ e. lc (sym e)));
    others = λ q x y z. b.others q x y;
  }
    where
      log-part : (map.get b.disk n.log ≡ map.get before n.log) ⊎ ((part : ℕ) × (bytes_at b.disk n.log ≡ take part (bytes_at m log_name))) → MayHoldSteps F n.log before b.disk
      log-part (inl e) = inl e
      log-part (inr (part, e)) = inr (record {
        steps = s.log.steps;
        logged = s.log.logged;
        last = s.log.run.last;
        valid = s.log.run.steps;
        part = part;
        bytes = e ∙ ap (take part) (log-text F G m s);
      })

      out-part : (map.get b.disk n.output ≡ map.get before n.output) ⊎ ((map.get b.disk n.log ≡ Some (bytes_at m log_name)) × ((part : ℕ) × (bytes_at b.disk n.output ≡ take part (bytes_at m out_name)))) →
          SameAt n.output before b.disk ⊎ HoldsPart F n.output n.log b.disk
      out-part (inl e) = inl e
      out-part (inr (w, (part, e))) = inr (record { result = G; log = run-at b.disk w; part = part; bytes = e ∙ ap (take part) (out-text F G m s) })

  cert-same : (after : Option Disk) → (b : HoldsBoth n.output n.log (bytes_at m out_name) (bytes_at m log_name) before after) → SameAt n.cert before b.disk
  cert-same after b = b.others n.cert (λ e. oc (sym e)) (λ e. lc (sym e))

  part-left : (mid after : Option Disk) → (b : HoldsBoth n.output n.log (bytes_at m out_name) (bytes_at m log_name) before mid) → (made : CertificateView) → AreCircuitsOf F made → MayHoldCircuits made n.cert b.disk after → IsLeft n before after
  part-left mid after b made c (gates, text, can, w) =
      whole-left n before w.disk after F G w.told (reduced-on b.disk w.disk w.others (reduced-at mid b)) (cert w.bytes)
    where
      cert : (map.get w.disk n.cert ≡ map.get b.disk n.cert) ⊎ ((part : ℕ) × (bytes_at w.disk n.cert ≡ take part text)) → SameAt n.cert before w.disk ⊎ HoldsAnswerFront n.cert F w.disk
      cert (inl e) = inl (e ∙ cert-same mid b)
      cert (inr (part, e)) = inr (record { made = made; circuits = c; gates = gates; text = text; canonical = can; part = part; bytes = e })

  -- CERT could not be written
  pub both-stand : (budget : Option ℕ) (mid after : Option Disk) → (b : HoldsBoth n.output n.log (bytes_at m out_name) (bytes_at m log_name) before mid) → Concludes WriteFault n.cert budget F G b.disk after → IsDone n before after (λ K L d. Unit {0})
  both-stand budget mid after b (made, c, (gates, text, can, w)) = record {
    disk = w.disk;
    told = w.told;
    from = F;
    to = G;
    reduced = reduced-on b.disk w.disk w.others (reduced-at mid b);
    holds = tt;
  }

  -- the search and the circuits
  pub concluded : (due : Solved) (budget : Option ℕ) (mid after : Option Disk) → (b : HoldsBoth n.output n.log (bytes_at m out_name) (bytes_at m log_name) before mid) → Concludes due n.cert budget F G b.disk after → Solves due n budget before after
  concluded (True g) budget mid after b (u, h, (made, c, (text, can, w))) = record {
    disk = w.disk;
    told = w.told;
    from = F;
    to = G;
    reduced = reduced-on b.disk w.disk w.others (reduced-at mid b);
    holds = (u, s.truth.1 h, record { made = made; circuits = c; text = text; canonical = can; bytes = w.bytes });
  }
  concluded False budget mid after b (u, h, t) = record { disk = b.disk; told = t; from = F; to = G; reduced = reduced-at mid b; holds = (u, (λ k. h (s.truth.0 k)), cert-same mid b) }
  concluded Unknown budget mid after b (u, t) = record { disk = b.disk; told = t; from = F; to = G; reduced = reduced-at mid b; holds = (u, cert-same mid b) }
  concluded (RefusedInput k c) budget mid after b h = absurd h
  concluded ReadFault budget mid after b h = absurd h
  concluded WriteFault budget mid after b (made, c, w) = part-left mid after b made c w
  concluded NoMemory budget mid after b (inl t) = inr (whole-left n before b.disk after F G t (reduced-at mid b) (inl (cert-same mid b)))
  concluded NoMemory budget mid after b (inr (made, c, w)) = inr (part-left mid after b made c w)
