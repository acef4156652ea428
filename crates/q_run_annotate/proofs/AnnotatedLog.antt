-- What `annotate` wrote is read back as the same steps with the same proof parts.
use Rattle.std.proofs.Common.{◌≡◌, ◌≢◌, ◌≤◌, ◌<◌, ◌+◌, ◌^◌, ◌∙◌, inl, inr, refl, sym, ap, subst, arith, ℕ, suc, List, [], ◌∷◌, map, length, Some, unwrap_or}
use Rattle.std.specs.List.{AllByRecursion}
use Rattle.q_logic.specs.Prelude.{Literal, IsIn, PrenexFormula, clause_of, Hinted, HintedRun, strip, standard, without, kind_of, step_of, literals_of, in_front, first_of, IsStepForm, ProofStep}
use Rattle.q_logic.specs.declared.steps.Kind.{Kind}
use Rattle.q_logic.specs.declared.steps.Kind.TheVariants.{Add, Delete, Drop, Fresh, Remove}
use Rattle.q_logic.proofs.Common.{IsIn-clause_of, without-IsIn}
use Rattle.q_logic.proofs.StepForms.{step_of-IsStep}
use Rattle.q_io.specs.Files.{Disk, HoldsBytes, bytes_at}
use Rattle.q_log.specs.Logs.{Steps}
use Rattle.q_log.specs.Spelled.{StepText, IsSpelled, step_in}
use Rattle.q_log.specs.Texts.{IsLogged}
use Rattle.q_log.proofs.LogReadIsSpelled.{read-spelled}
use Rattle.q_hinted.specs.Logs.{HintedSteps}
use Rattle.q_hinted.specs.Parts.{IsPartOf}
use Rattle.q_hinted.specs.Texts.{IsWritten, log_text, on_lines}
use Rattle.q_hinted.proofs.HintedRoundTrip.{hinted-reread}
use Rattle.q_command.specs.Checks.{IsFileOf, IsRunLog, IsVerified}
use Rattle.q_command.specs.Logs.{Entry, HintedEntry, steps_of, hinted_of, stripped}
use Rattle.q_command.proofs.WholeLogs.{not-both-profiles}
use Rattle.q_run_annotate.specs.Annotates.{AnnotateFiles, IsAnnotation, IsWhole, SaysVerified}

abbrev IsNumber : Literal → Type 0
IsNumber l = (1 ≤ l.var) × (l.var < 2 ^ 31)

all-in : (ls : List Literal) → AllByRecursion IsNumber ls → (l : Literal) → IsIn l ls → IsNumber l
all-in [] a l i = elim i [ ]
all-in (x ∷ ls) a l (inl e) = subst IsNumber (sym e) a.0
all-in (x ∷ ls) a l (inr i) = all-in ls a.1 l i

all-of : (ls : List Literal) → ((l : Literal) → IsIn l ls → IsNumber l) → AllByRecursion IsNumber ls
all-of [] h = tt
all-of (x ∷ ls) h = (h x (inl refl), all-of ls (λ l i. h l (inr i)))

all-front : (ls : List Literal) → AllByRecursion IsNumber ls → AllByRecursion IsNumber (in_front (first_of ls) (clause_of ls))
all-front [] a = tt
all-front (x ∷ ls) a = (a.0, all-of (without x (clause_of (x ∷ ls))) (λ l i. all-in (x ∷ ls) a l (IsIn-clause_of l (x ∷ ls) (without-IsIn x (clause_of (x ∷ ls)) l i))))

-- a step that is spelled can be logged
numbers-of : (k : Kind) (ls : List Literal) → IsStepForm k ls → AllByRecursion IsNumber ls → AllByRecursion IsNumber (literals_of (step_of k ls))
numbers-of Add ls f a = all-front ls a
numbers-of Delete ls f a = all-front ls a
numbers-of Drop [] f a = absurd (omega (arith, f))
numbers-of Drop (x ∷ ls) f a = all-front (x ∷ ls) a
numbers-of Fresh [] f a = absurd (let e : 0 ≡ 2 = f.0 in cc)
numbers-of Fresh (v ∷ []) f a = absurd (let e : 1 ≡ 2 = f.0 in cc)
numbers-of Fresh (v ∷ w ∷ ls) f a = (a.0, (a.1.0, tt))
numbers-of Remove [] f a = absurd (let e : 0 ≡ 1 = f.0 in cc)
numbers-of Remove (v ∷ ls) f a = (a.0, tt)

logged-texts : (ts : List StepText) → AllByRecursion IsSpelled ts → AllByRecursion IsLogged (steps_of (map step_in ts))
logged-texts [] a = tt
logged-texts (t ∷ ts) a = (record { step = step_of-IsStep t.kind t.lits a.0.form; numbers = numbers-of t.kind t.lits a.0.form a.0.numbers }, logged-texts ts a.1)

pub read-logged : (log : List ℕ) (es : List Entry) → Steps standard.bytes log ≡ Some es → AllByRecursion IsLogged (steps_of es)
read-logged log es e =
    let l = read-spelled standard.bytes log es e in
    subst (λ (xs : List Entry). AllByRecursion IsLogged (steps_of xs)) (sym l.steps_are) (logged-texts l.texts l.spelled)

written : (hs : List Hinted) → AllByRecursion IsLogged (strip hs) → AllByRecursion (λ h. IsPartOf (kind_of h.step) h.proof) hs → AllByRecursion IsWritten hs
written [] a p = tt
written (h ∷ hs) a p = (record { step = a.0; part = p.0 }, written hs a.1 p.1)

hinted-on_lines : (n : ℕ) (hs : List Hinted) → hinted_of (on_lines n hs) ≡ hs
hinted-on_lines n [] = refl
hinted-on_lines n (h ∷ hs) = ap (λ (xs : List Hinted). h ∷ xs) (hinted-on_lines (n + 1) hs)

-- the steps of what was written
is-read : (log : List ℕ) (steps : ℕ) (F G : PrenexFormula) (text : List ℕ) (a : IsAnnotation log steps F G text) → length text ≤ 1099511627776 → HintedSteps standard.bytes text ≡ Some (on_lines 2 a.hinted.hinted)
is-read log steps F G text a k =
    let h = a.hinted in
    let logged : AllByRecursion IsLogged (strip h.hinted) = subst (λ (ss : List ProofStep). AllByRecursion IsLogged ss) (sym h.steps) (read-logged log a.entries a.is_log) in
    let short : length (log_text h.hinted) ≤ 1099511627776 = subst (λ (xs : List ℕ). length xs ≤ 1099511627776) h.text_is k in
    let read : HintedSteps standard.bytes (log_text h.hinted) ≡ Some (on_lines 2 h.hinted) = hinted-reread 1099511627776 h.hinted (written h.hinted logged h.parts) short in
    ap (HintedSteps standard.bytes) h.text_is ∙ read

pub reread : (log : List ℕ) (steps : ℕ) (F G : PrenexFormula) (text : List ℕ) → IsAnnotation log steps F G text → length text ≤ 1099511627776 → (es : List Entry) × IsRunLog text F G es
reread log steps F G text a k =
    let h = a.hinted in (
      stripped (on_lines 2 h.hinted),
      inr (record {
        hinted = on_lines 2 h.hinted;
        is_log = is-read log steps F G text a k;
        run = subst (λ (hs : List Hinted). HintedRun F hs G) (sym (hinted-on_lines 2 h.hinted)) h.run;
        entries_are = refl;
      }),
    )

length-stripped : (n : ℕ) (hs : List Hinted) → length (stripped (on_lines n hs)) ≡ length hs
length-stripped n [] = refl
length-stripped n (h ∷ hs) = ap suc (length-stripped (n + 1) hs)

length-strip : (hs : List Hinted) → length (strip hs) ≡ length hs
length-strip [] = refl
length-strip (h ∷ hs) = ap suc (length-strip hs)

length-steps : (es : List Entry) → length (steps_of es) ≡ length es
length-steps [] = refl
length-steps (e ∷ es) = ap suc (length-steps es)

-- there is one step for each of LOG
same-count : (log : List ℕ) (steps : ℕ) (F G : PrenexFormula) (text : List ℕ) → IsAnnotation log steps F G text → length text ≤ 1099511627776 → (D E : PrenexFormula) (es : List Entry) → IsRunLog text D E es → length es ≡ steps
same-count log steps F G text a k D E es (inl r) = absurd (not-both-profiles text es (on_lines 2 a.hinted.hinted) r.is_log (is-read log steps F G text a k))
same-count log steps F G text a k D E es (inr r) =
    let read = is-read log steps F G text a k in
    let same : r.hinted ≡ on_lines 2 a.hinted.hinted = (let e : Some r.hinted ≡ Some (on_lines 2 a.hinted.hinted) = sym r.is_log ∙ read in cc) in
    ap (λ (xs : List Entry). length xs) r.entries_are ∙ (ap (λ (hs : List HintedEntry). length (stripped hs)) same ∙
    (length-stripped 2 a.hinted.hinted ∙ (sym (length-strip a.hinted.hinted) ∙ (ap (λ (ss : List ProofStep). length ss) a.hinted.steps ∙ (length-steps a.entries ∙ sym a.count)))))

-- HINTED holds the text
holds-text : (n : AnnotateFiles) (text : List ℕ) (before after : Disk) (put : HoldsBytes n.hinted text before (Some after)) → bytes_at after n.hinted ≡ text
holds-text n text before after put =
    let d : put.disk ≡ after = cc in
    ap (λ (x : Disk). bytes_at x n.hinted) (sym d) ∙ ap (λ b. unwrap_or b []) put.bytes

pub counted : (n : AnnotateFiles) (steps : ℕ) (before after : Disk) → IsWhole steps n before (Some after) → length (bytes_at after n.hinted) ≤ 1099511627776 → (k : ℕ) → SaysVerified k (bytes_at after n.input) (bytes_at after n.output) (bytes_at after n.hinted) → k ≡ steps
counted n steps before after w short k v =
    let text = w.holds.0 in
    let e : bytes_at after n.hinted ≡ text = holds-text n text before after w.holds.2 in
    let es = v.holds.0 in
    let run : IsRunLog text v.from v.to es = subst (λ (xs : List ℕ). IsRunLog xs v.from v.to es) e v.holds.1 in
    let small : length text ≤ 1099511627776 = subst (λ (xs : List ℕ). length xs ≤ 1099511627776) e short in
    v.holds.2 ∙ same-count (bytes_at before n.log) steps w.from w.to text w.holds.1 small v.from v.to es run

pub accepted : (n : AnnotateFiles) (steps : ℕ) (before after : Disk) → n.hinted ≢ n.input → n.hinted ≢ n.output → IsWhole steps n before (Some after) → length (bytes_at after n.hinted) ≤ 1099511627776 → IsVerified (bytes_at after n.input) (bytes_at after n.output) (bytes_at after n.hinted)
accepted n steps before after i o w k =
    let text = w.holds.0 in
    let put = w.holds.2 in
    let d : put.disk ≡ after = cc in
    let input : bytes_at put.disk n.input ≡ bytes_at before n.input = ap (λ b. unwrap_or b []) (put.others n.input (λ e. i (sym e))) in
    let output : bytes_at put.disk n.output ≡ bytes_at before n.output = ap (λ b. unwrap_or b []) (put.others n.output (λ e. o (sym e))) in
    let hinted : bytes_at put.disk n.hinted ≡ text = ap (λ b. unwrap_or b []) put.bytes in
    let short : length text ≤ 1099511627776 = subst (λ (xs : List ℕ). length xs ≤ 1099511627776) (ap (λ (x : Disk). bytes_at x n.hinted) (sym d) ∙ hinted) k in
    let r = reread (bytes_at before n.log) steps w.from w.to text w.holds.1 short in
    let all : IsVerified (bytes_at put.disk n.input) (bytes_at put.disk n.output) (bytes_at put.disk n.hinted) = record {
      from = w.from;
      to = w.to;
      is_input = subst (λ (xs : List ℕ). IsFileOf xs w.from) (sym input) w.is_input;
      is_output = subst (λ (xs : List ℕ). IsFileOf xs w.to) (sym output) w.is_output;
      holds = (r.0, subst (λ (xs : List ℕ). IsRunLog xs w.from w.to r.0) (sym hinted) r.1);
    } in
    subst (λ (x : Disk). IsVerified (bytes_at x n.input) (bytes_at x n.output) (bytes_at x n.hinted)) d all
