-- The files that `simplify` left, as `check` reads them.
use Rattle.std.proofs.Common.{◌≡◌, ◌≢◌, ◌≤◌, ◌+◌, ◌∷◌, inl, refl, sym, ap, ◌∙◌, subst, ℕ, List, [], length, Some, unwrap_or}
use Rattle.std.specs.List.{AllByRecursion}
use Rattle.q_logic.specs.Prelude.{PrenexFormula, standard, ProofStep, Run}
use Rattle.q_io.specs.Files.{Disk, bytes_at}
use Rattle.q_dimacs.specs.Dimacs.{Dimacs}
use Rattle.q_dimacs.specs.Writing.{formula_text}
use Rattle.q_log.specs.Logs.{Steps}
use Rattle.q_log.specs.Texts.{IsLogged, on_lines, steps_text}
use Rattle.q_simplify.specs.declared.options.Options.{Options}
use Rattle.q_simplify.specs.declared.report.Report.{Report}
use Rattle.q_simplify.specs.Results.{IsReport, Simplifies, Writes}
use Rattle.q_command.specs.Logs.{steps_of}
use Rattle.q_command.specs.Checks.{IsFileOf, IsVerified}

steps_of-on_lines : (n : ℕ) (ss : List ProofStep) → steps_of (on_lines n ss) ≡ ss
steps_of-on_lines n [] = refl
steps_of-on_lines n (s ∷ ss) = ap (λ (ts : List ProofStep). s ∷ ts) (steps_of-on_lines (n + 1) ss)

-- the text of steps is read as these steps
abbrev pub AreReread : Type 0
AreReread = (limit : ℕ) → (steps : List ProofStep) → AllByRecursion IsLogged steps → length (steps_text steps) ≤ limit → Steps limit (steps_text steps) ≡ Some (on_lines 1 steps)

-- however the run ended, if the formula of OUT can be read back
pub verified-as : AreReread → (Is : PrenexFormula → Type 0) → ((G : PrenexFormula) → Is G → Dimacs standard (formula_text G) G) → (F : PrenexFormula) (input output log : List ℕ) (before after : Disk) → input ≢ output → input ≢ log → IsFileOf (bytes_at before input) F → Writes Is F output log before (Some after) → length (bytes_at after log) ≤ 1099511627776 → IsVerified (bytes_at after input) (bytes_at after output) (bytes_at after log)
verified-as reread Is readable F input output log before after m n f s k =
    let d : s.disk ≡ after = cc in
    let i : bytes_at s.disk input ≡ bytes_at before input = ap (λ b. unwrap_or b []) (s.others input m n) in
    let t : bytes_at s.disk output ≡ formula_text s.result = ap (λ b. unwrap_or b []) s.output in
    let l : bytes_at s.disk log ≡ steps_text s.log.steps = ap (λ b. unwrap_or b []) s.log.bytes in
    let short : length (steps_text s.log.steps) ≤ 1099511627776 = subst (λ (xs : List ℕ). length xs ≤ 1099511627776) (ap (λ (x : Disk). bytes_at x log) (sym d) ∙ l) k in
    let read : Steps standard.bytes (steps_text s.log.steps) ≡ Some (on_lines 1 s.log.steps) = reread 1099511627776 s.log.steps s.log.logged short in
    let all : IsVerified (bytes_at s.disk input) (bytes_at s.disk output) (bytes_at s.disk log) = record {
      from = F;
      to = s.result;
      is_input = subst (λ (xs : List ℕ). IsFileOf xs F) (sym i) f;
      is_output = subst (λ (xs : List ℕ). IsFileOf xs s.result) (sym t) (readable s.result s.report);
      holds = (
        on_lines 1 s.log.steps,
        inl (record {
          is_log = ap (Steps standard.bytes) l ∙ read;
          run = subst (λ (ts : List ProofStep). Run F ts s.result) (sym (steps_of-on_lines 1 s.log.steps)) s.log.run;
        }),
      );
    } in
    subst (λ (x : Disk). IsVerified (bytes_at x input) (bytes_at x output) (bytes_at x log)) d all

pub verified : AreReread → (o : Options) (F : PrenexFormula) (r : Report) (input output log : List ℕ) (before after : Disk) → input ≢ output → input ≢ log → IsFileOf (bytes_at before input) F → Simplifies o F r output log before (Some after) → length (bytes_at after log) ≤ 1099511627776 → IsVerified (bytes_at after input) (bytes_at after output) (bytes_at after log)
verified reread o F r = verified-as reread (λ (G : PrenexFormula). IsReport o F r G) (λ G i. i.readable) F
