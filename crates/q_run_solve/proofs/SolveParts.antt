-- The parts of the work, together.
use Rattle.std.proofs.Common.{◌≡◌, ◌≢◌, ◌∙◌, inl, inr, sym, ap, subst, ℕ, List, get_or, true, arith, Option, Some, None, IfSome}
use Rattle.std.specs.FinMap as map
use Rattle.std.proofs.lemmas.Option.{IfSome_then}
use Rattle.q_logic.specs.declared.rule_bounds.Bounds.{Bounds}
use Rattle.q_logic.specs.UsualBounds.{usual}
use Rattle.q_logic.specs.Prelude.{PrenexFormula, standard}
use Rattle.q_io.specs.Files.{Disk, bytes_at}
use Rattle.q_io.proofs.StoreContents.{at_some}
use Rattle.q_dimacs.specs.Dimacs.{Dimacs}
use Rattle.q_dimacs.specs.Writing.{formula_text}
use Rattle.q_simplify.specs.declared.report.Report.{Report}
use Rattle.q_simplify.specs.Results.{Simplifies}
use Rattle.q_command.specs.declared.audit.Keep.{Keep}
use Rattle.q_command.specs.declared.checking.Checked.{Checked}
use Rattle.q_command.specs.Checks.{FilesPass, LeadsBack, IsFileOf}
use Rattle.q_command.proofs.CheckStatus.{one_formula}
use Rattle.q_command.proofs.FilePieces.{if_some_2}
use Rattle.q_run_solve.specs.declared.solved.Solved.{Solved}
use Rattle.q_run_solve.specs.declared.solved.Solved.TheVariants as solved
use Rattle.q_command.specs.declared.input.InputError.{InputError}
use Rattle.q_command.specs.declared.input.InputError.TheVariants as reading
use Rattle.q_command.specs.Inputs.{IsRefused}
use Rattle.q_io.specs.declared.error.DeviceError.{DeviceError}
use Rattle.q_io.specs.declared.error.DeviceError.TheVariants as device
use Rattle.q_run_solve.specs.declared.reducing.Reduced.{Reduced}
use Rattle.q_run_solve.specs.Reduces.{plain_options, in_name, out_name, log_name, IsSimplified, SomeSimplified, IsReducedTo, HoldsBoth, HoldsLog, MayHoldBoth}
use Rattle.q_run_solve.specs.Solves.{SolveFiles, Solves, Concludes, IsDone, IsLeft, IsLogged, refusal_of, failed_write}
use Rattle.q_run_solve.proofs.KeptFiles.{held-bytes, both-stand, concluded, left-part, logged-at}

in-out : in_name ≢ out_name
in-out e = let h : 73 ≡ 79 = ap (λ (xs : List ℕ). get_or xs 0 0) e in omega (arith, h)

in-log : in_name ≢ log_name
in-log e = let h : 73 ≡ 76 = ap (λ (xs : List ℕ). get_or xs 0 0) e in omega (arith, h)

pub simplified-in : {B : Bounds} (F : PrenexFormula) (m0 m : Disk) (r : Report) → map.get m0 in_name ≡ Some (formula_text F) → B ≡ usual
    → Simplifies (record { bounds = B; budget = None }) F r out_name log_name m0 (Some m) → SomeSimplified F m
simplified-in F m0 m r e b given =
    let s : Simplifies plain_options F r out_name log_name m0 (Some m) =
    subst (λ (A : Bounds). Simplifies (record { bounds = A; budget = None }) F r out_name log_name m0 (Some m)) b given in
    let same : s.disk ≡ m = (let t : Some m ≡ Some s.disk = s.told in cc) in (
      s.result,
      subst (IsSimplified F s.result) same (record {
        report = r;
        reported = s.report;
        truth = s.truth;
        input = s.others in_name in-out in-log ∙ e;
        output = s.output;
        log = s.log;
      }),
    )

pub reduced-to : (F : PrenexFormula) (m m2 : Disk) (k : Keep) (c : Checked) → m2 ≡ m → SomeSimplified F m → FilesPass k (bytes_at m in_name) (bytes_at m out_name) (bytes_at m log_name) c → LeadsBack true c.from c.to c.undo →
    Dimacs standard (formula_text F) F → IsReducedTo F (record { memory = m2; checked = c })
reduced-to F m m2 k c e (G, s) p b d =
    let i : IsFileOf (formula_text F) c.from = subst (λ (bytes : List ℕ). IsFileOf bytes c.from) (held-bytes m in_name (formula_text F) s.input) p.is_input in
    let o : IsFileOf (formula_text G) c.to = subst (λ (bytes : List ℕ). IsFileOf bytes c.to) (held-bytes m out_name (formula_text G) s.output) p.is_output in
    let g : c.to ≡ G = one_formula (formula_text G) c.to G o s.reported.readable in
    record {
      start = one_formula (formula_text F) c.from F i d;
      made = subst (λ (x : Disk). IsSimplified F c.to x) (sym e) (subst (λ (H : PrenexFormula). IsSimplified F H m) (sym g) s);
      back = b;
    }

pub solved-all : (n : SolveFiles) (r : Reduced) (due : Solved) (budget : Option ℕ) (h1 h2 h3 : Option Disk) → n.output ≢ n.cert → n.log ≢ n.cert → IsReducedTo r.checked.from r →
    IfSome h1 (λ disk. HoldsBoth n.output n.log (bytes_at r.memory out_name) (bytes_at r.memory log_name) disk h2) → IfSome h2 (λ disk. Concludes due n.cert budget r.checked.from r.checked.to disk h3) →
    IfSome h1 (λ disk. Dimacs standard (bytes_at disk n.input) r.checked.from → Solves due n budget disk h3)
solved-all n r due budget h1 h2 h3 oc lc t b k = IfSome_then h1 b (λ disk w f. concluded n disk r.checked.from r.checked.to r.memory f t.made oc lc due budget h2 h3 w (at_some _ h2 k w.disk w.told))

pub left-all : (n : SolveFiles) (r : Reduced) (due : Solved) (e : DeviceError) (budget : Option ℕ) (h1 h2 : Option Disk) → n.output ≢ n.cert → n.log ≢ n.cert → IsReducedTo r.checked.from r → due ≡ failed_write e →
    IfSome h1 (λ disk. MayHoldBoth n.output n.log (bytes_at r.memory out_name) (bytes_at r.memory log_name) disk h2) →
    IfSome h1 (λ disk. Dimacs standard (bytes_at disk n.input) r.checked.from → Solves due n budget disk h2)
left-all n r due e budget h1 h2 oc lc t d b = IfSome_then h1 b (λ disk w f. subst (λ (x : Solved). Solves x n budget disk h2) (sym d) (go e disk (left-part n disk r.checked.from r.checked.to r.memory f t.made oc lc h2 w)))
  where
    go : (e : DeviceError) → (disk : Disk) → IsLeft n disk h2 → Solves (failed_write e) n budget disk h2
    go device.Failed disk w = w
    go device.NoMemory disk w = inr w

pub logged-all : (n : SolveFiles) (r : Reduced) (h1 h2 : Option Disk) → n.output ≢ n.cert → n.log ≢ n.cert → IsReducedTo r.checked.from r →
    IfSome h1 (λ disk. Dimacs standard (bytes_at disk n.input) r.checked.from) → IfSome h1 (λ disk. HoldsLog n.log (bytes_at r.memory log_name) h2) → IfSome h1 (λ disk. IsLogged n disk h2)
logged-all n r h1 h2 oc lc t f b = if_some_2 h1 f b (λ disk x w. logged-at n disk r.checked.from r.checked.to r.memory x t.made oc lc h2 w)

pub both-all : (n : SolveFiles) (r : Reduced) (due : Solved) (budget : Option ℕ) (h1 h2 h3 : Option Disk) → n.output ≢ n.cert → n.log ≢ n.cert → IsReducedTo r.checked.from r → due ≡ solved.WriteFault →
    IfSome h1 (λ disk. Dimacs standard (bytes_at disk n.input) r.checked.from) → IfSome h1 (λ disk. HoldsBoth n.output n.log (bytes_at r.memory out_name) (bytes_at r.memory log_name) disk h2) →
    IfSome h2 (λ disk. Concludes due n.cert budget r.checked.from r.checked.to disk h3) → IfSome h1 (λ disk. IsDone n disk h3 (λ F G d. Unit {0}))
both-all n r due budget h1 h2 h3 oc lc t e f b k =
    if_some_2 h1 f b (λ disk x w. both-stand n disk r.checked.from r.checked.to r.memory x t.made oc lc budget h2 h3 w
    (subst (λ (s : Solved). Concludes s n.cert budget r.checked.from r.checked.to w.disk h3) e (at_some _ h2 k w.disk w.told)))

pub settled-all : (n : SolveFiles) (F H : PrenexFormula) (due : Solved) (budget : Option ℕ) (h0 h1 h2 : Option Disk) → H ≡ F → h1 ≡ h0 → IfSome h0 (λ disk. Dimacs standard (bytes_at disk n.input) F) →
    IfSome h1 (λ disk. Dimacs standard (bytes_at disk n.input) H → Solves due n budget disk h2) → IfSome h0 (λ disk. Solves due n budget disk h2)
settled-all n F H due budget h0 h1 h2 e s f k =
    if_some_2 h0 f (subst (λ (o : Option Disk). IfSome o (λ disk. Dimacs standard (bytes_at disk n.input) H → Solves due n budget disk h2)) s k) (λ disk x y. y (subst (λ (K : PrenexFormula). Dimacs standard (bytes_at disk n.input) K) (sym e) x))

pub starts-same : (F : PrenexFormula) (r : Reduced) → IsReducedTo F r → IsReducedTo r.checked.from r
starts-same F r t = subst (λ (H : PrenexFormula). IsReducedTo H r) (sym t.start) t

-- the input is refused, or reading it failed
pub refused-says : (n : SolveFiles) (due : Solved) (e : InputError) (budget : Option ℕ) (h0 h1 : Option Disk) → due ≡ refusal_of e → IfSome h0 (λ disk. IsRefused e (bytes_at disk n.input)) → h1 ≡ h0 → IfSome h0 (λ disk. Solves due n budget disk h1)
refused-says n due e budget None h1 d r s = tt
refused-says n due e budget (Some disk) h1 d r s = subst (λ (x : Solved). Solves x n budget disk h1) (sym d) (go e r)
  where
    go : (e : InputError) → IsRefused e (bytes_at disk n.input) → Solves (refusal_of e) n budget disk h1
    go (reading.Refused k c) r = (r, s)
    go reading.Fault r = s
    go reading.NoMemory r = inl s

-- memory was wanting before anything was written
pub nothing-says : (n : SolveFiles) (budget : Option ℕ) (h0 h1 : Option Disk) → h1 ≡ h0 → IfSome h0 (λ disk. Solves solved.NoMemory n budget disk h1)
nothing-says n budget None h1 s = tt
nothing-says n budget (Some disk) h1 s = inl s
