-- What is said of the three commands, put together.
use Rattle.std.proofs.Common.{◌≡◌, ◌≢◌, inl, inr, ℕ, List, [], refl, sym, ap, ◌∙◌, subst, Option, Some, unwrap_or}
use Rattle.q_logic.specs.Prelude.{PrenexFormula, trees_of, SkolemOf, measure_of}
use Rattle.q_io.specs.Files.{Disk, bytes_at}
use Rattle.q_dimacs.specs.Writing.{formula_text}
use Rattle.q_aiger.specs.Writing.{IsCanonical}
use Rattle.q_aiger.specs.Alike.{AreAlike}
use Rattle.q_aiger.proofs.GateOrders.{one-meaning}
use Rattle.q_rebuild.proofs.AlikeAccepted.{skolem-alike}
use Rattle.q_sched.specs.Settled.{IsSettled}
use Rattle.q_sched.specs.Drives.{IsSpentAt}
use Rattle.q_simplify.specs.declared.options.Options.{Options}
use Rattle.q_simplify.specs.declared.report.Report.{Report}
use Rattle.q_simplify.specs.declared.report.Ending.{Ending}
use Rattle.q_simplify.specs.declared.report.Ending.TheVariants as ending
use Rattle.q_simplify.specs.Results.{EndsAs, Simplifies}
use Rattle.q_command.specs.Checks.{IsFileOf, IsVerified}
use Rattle.q_app.specs.Simplifying.{SimplifiesExactly}
use Rattle.q_app.specs.Rebuilds.{FiveNames, AreSkolem, IsWhole}
use Rattle.q_app.specs.Statuses.{status_of_ending}
use Rattle.q_app.specs.Headline.{IsAcceptedByCheck, IsSimplified, EndsRight, HoldsSkolem, Headline}
use Rattle.q_command.specs.declared.status.Status.{Status}
use Rattle.q_command.specs.declared.status.Status.TheVariants as status
use Rattle.q_command.proofs.CheckStatus.{one_formula}
use Rattle.q_app.proofs.VerifiedFiles.{AreReread, verified}

pub accepted-by-check : (input output log : List ℕ) → IsVerified input output log → IsAcceptedByCheck input output log
accepted-by-check input output log v answer a = a.verified.1 v

-- how it ended, by its status
ended-spent : (x : Ending) (o : Options) (F G : PrenexFormula) → EndsAs x o F G → status_of_ending x ≡ status.Spent → IsSpentAt o.budget (measure_of o.bounds F) (measure_of o.bounds G)
ended-spent ending.Settled o F G h e = cc
ended-spent ending.True o F G h e = cc
ended-spent ending.False o F G h e = cc
ended-spent ending.Spent o F G h e = h.1
ended-spent ending.Stopped o F G h e = absurd h

ended-settled : (x : Ending) (o : Options) (F G : PrenexFormula) → EndsAs x o F G → status_of_ending x ≢ status.Spent → IsSettled o.bounds G
ended-settled ending.Settled o F G h n = h.0
ended-settled ending.True o F G h n = h.0
ended-settled ending.False o F G h n = h.0
ended-settled ending.Spent o F G h n = absurd (n refl)
ended-settled ending.Stopped o F G h n = absurd h

-- OUT and LOG are written
left-written : AreReread → (answer : Status) (r : Report) (o : Options) (F : PrenexFormula) (input output log : List ℕ) (before : Disk) (after : Option Disk) → input ≢ output → input ≢ log → IsFileOf (bytes_at before input) F → answer ≡ status_of_ending r.ending → Simplifies o F r output log before after → (disk : Disk) × (after ≡ Some disk) × IsSimplified answer o F input output log disk
left-written reread answer r o F input output log before after m n f a s =
    let t : bytes_at s.disk output ≡ formula_text s.result = ap (λ b. unwrap_or b []) s.output in (
      s.disk,
      s.told,
      record {
        to = s.result;
        is_output = subst (λ (xs : List ℕ). IsFileOf xs s.result) (sym t) s.report.readable;
        truth = s.truth;
        fell = λ e. ended-spent r.ending o F s.result s.report.ending (sym a ∙ e);
        settled = λ e. ended-settled r.ending o F s.result s.report.ending (λ z. e (a ∙ z));
        accepted = λ short. accepted-by-check (bytes_at s.disk input) (bytes_at s.disk output) (bytes_at s.disk log) (verified reread o F r input output log before s.disk m n f (subst (λ (k : Option Disk). Simplifies o F r output log before k) s.told s) short);
      },
    )

pub simplified : AreReread → (answer : Status) (o : Options) (input output log : List ℕ) (before : Disk) (after : Option Disk) → input ≢ output → input ≢ log → SimplifiesExactly answer o input output log before after → (F : PrenexFormula) → IsFileOf (bytes_at before input) F → EndsRight answer o F input output log after
simplified reread answer o input output log before after m n h F f =
    record {
      ends = elim h.any [ inl e ↦ inl e | inr (inl e) ↦ absurd (h.refused.0 e F f) | inr (inr e) ↦ inr e ];
      leaves = λ e.
          let x = h.ended e in
          let same : x.1.0 ≡ F = one_formula (bytes_at before input) x.1.0 F x.1.1 f in
          left-written reread answer x.0 o F input output log before after m n f x.2 (subst (λ (H : PrenexFormula). Simplifies o H x.0 output log before after) same x.1.2);
    }

-- the certificate that was written
held : (n : FiveNames) (before after : Disk) (gates : ℕ) → IsWhole gates n before (Some after) → AreSkolem n before → (F : PrenexFormula) → IsFileOf (bytes_at before n.input) F → HoldsSkolem (bytes_at after n.cert) F
held n before after gates h k F f =
    let w = h.holds.1 in
    let text : List ℕ = w.0 in
    let same : AreAlike k.given h.given = one-meaning (bytes_at before n.skolem) k.given h.given k.circuits h.brings.circuits in
    let to : k.to ≡ h.to = one_formula (bytes_at before n.output) k.to h.to k.is_output h.brings.is_output in
    let from : h.from ≡ F = one_formula (bytes_at before n.input) h.from F h.brings.is_input f in
    let given : SkolemOf h.to (trees_of h.given) = subst (λ (G : PrenexFormula). SkolemOf G (trees_of h.given)) to (skolem-alike k.given h.given same.inputs same.names same.trees k.to k.holds) in
    let d : w.2.disk ≡ after = cc in
    let bytes : bytes_at after n.cert ≡ w.0 = ap (λ (x : Disk). bytes_at x n.cert) (sym d) ∙ ap (λ b. unwrap_or b []) w.2.bytes in
    record {
      made = w.1.made;
      gates = gates;
      canonical = subst (λ (xs : List ℕ). IsCanonical w.1.made gates xs) (sym bytes) w.1.canonical;
      skolem = subst (λ (H : PrenexFormula). SkolemOf H (trees_of w.1.made)) from (w.1.rebuilt.skolem given);
    }

pub headline : AreReread → Headline
headline reread = record {
  simplify = simplified reread;
  check = λ answer input output log a. a.truth;
  rebuild = λ answer n before after h k. record {
    ends = h.skolem k;
    skolem = λ e F f. let w = h.written e in held n before after w.0 w.1 k F f;
  };
}
