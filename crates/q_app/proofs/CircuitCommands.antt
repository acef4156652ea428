-- What is said of the commands over circuits, put together.
use Rattle.std.proofs.Common.{◌≡◌, inl, inr, ℕ, List, [], sym, ap, ◌∙◌, subst, Option, Some, unwrap_or}
use Rattle.q_logic.specs.Prelude.{PrenexFormula, Holds, trees_of}
use Rattle.q_logic.specs.Herbrands.{HerbrandOf}
use Rattle.q_logic.proofs.Falsity.{herbrand-false}
use Rattle.q_logic.proofs.Common.{Run-justified, from_skolem}
use Rattle.q_logic.proofs.Repeated.{run-true_to}
use Rattle.q_rebuild.proofs.AlikeAccepted.{same-strategy}
use Rattle.q_io.specs.Files.{Disk, bytes_at}
use Rattle.q_aiger.specs.Writing.{IsCanonical}
use Rattle.q_aiger.specs.Alike.{AreAlike}
use Rattle.q_aiger.proofs.GateOrders.{one-meaning}
use Rattle.q_command.specs.Checks.{IsFileOf}
use Rattle.q_command.specs.Logs.{steps_of}
use Rattle.q_command.specs.declared.status.Status.{Status}
use Rattle.q_command.specs.declared.status.Status.TheVariants as status
use Rattle.q_command.proofs.CheckStatus.{one_formula}
use Rattle.q_command.proofs.WholeLogs.{run_of}
use Rattle.q_command.proofs.FileFormulas.{file-formula}
use Rattle.q_run_validate.specs.Validates.{ValidateFiles, ValidatesExactly}
use Rattle.q_run_refute.specs.Refutes.{RefuteFiles, AreHerbrand, IsWhole}
use Rattle.q_run_solve.specs.Solves.{SolveFiles, HoldsAnswer, SolvesExactly}
use Rattle.q_app.specs.Headline.{HoldsSkolem}
use Rattle.q_app.specs.Further.{HoldsHerbrand, SaysTruth, Further}

validated : (answer : Status) (n : ValidateFiles) (budget : Option ℕ) (before : Disk) (after : Option Disk) → ValidatesExactly answer n budget before after → answer ≡ status.Done → (F : PrenexFormula) → IsFileOf (bytes_at before n.input) F → Holds F
validated answer n budget before after h e F f =
    let v = h.done.0 e in
    subst Holds (one_formula (bytes_at before n.input) v.formula F v.is_input f)
    (from_skolem v.formula (trees_of v.given) (file-formula (bytes_at before n.input) v.formula v.is_input) v.holds.0)

-- the formula of IN is false
fails : (n : RefuteFiles) (before : Disk) → AreHerbrand n before → (F : PrenexFormula) → IsFileOf (bytes_at before n.input) F → ¬ Holds F
fails n before k F f t =
    let from : F ≡ k.run.from = one_formula (bytes_at before n.input) F k.run.from f k.run.is_input in
    let g = file-formula (bytes_at before n.input) k.run.from k.run.is_input in
    herbrand-false k.run.to (trees_of k.given) (file-formula (bytes_at before n.output) k.run.to k.run.is_output) k.fits
    ((run-true_to k.run.from (steps_of k.run.entries) k.run.to g (Run-justified k.run.from (steps_of k.run.entries) k.run.to (run_of (bytes_at before n.log) k.run.from k.run.to k.run.entries k.run.log))).0 (subst Holds from t))

some-same : (d e : Disk) → Some d ≡ Some e → d ≡ e
some-same d e h = cc

-- the certificate that was written
held : (n : RefuteFiles) (before after : Disk) (gates : ℕ) → IsWhole gates n before (Some after) → AreHerbrand n before → (F : PrenexFormula) → IsFileOf (bytes_at before n.input) F → HoldsHerbrand (bytes_at after n.cert) F
held n before after gates h k F f =
    let w = h.holds.1 in
    let same : AreAlike k.given h.given = one-meaning (bytes_at before n.herbrand) k.given h.given k.circuits h.brings.circuits in
    let to : k.run.to ≡ h.to = one_formula (bytes_at before n.output) k.run.to h.to k.run.is_output h.brings.is_output in
    let from : h.from ≡ F = one_formula (bytes_at before n.input) h.from F h.brings.is_input f in
    let given : HerbrandOf h.to (trees_of h.given) = subst (λ (G : PrenexFormula). HerbrandOf G (trees_of h.given)) to (subst (HerbrandOf k.run.to) (same-strategy (trees_of k.given) (trees_of h.given) same.trees) k.fits) in
    let d : w.2.disk ≡ after = cc in
    let bytes : bytes_at after n.cert ≡ w.0 = ap (λ (x : Disk). bytes_at x n.cert) (sym d) ∙ ap (λ b. unwrap_or b []) w.2.bytes in
    record {
      made = w.1.made;
      gates = gates;
      canonical = subst (λ (xs : List ℕ). IsCanonical w.1.made gates xs) (sym bytes) w.1.canonical;
      herbrand = subst (λ (H : PrenexFormula). HerbrandOf H (trees_of w.1.made)) from (w.1.refuted.herbrand given);
    }

-- what was written with a yes
answered : (n : SolveFiles) (F : PrenexFormula) (disk after : Disk) (gates : ℕ) → disk ≡ after → HoldsAnswer n.cert gates F disk → HoldsSkolem (bytes_at after n.cert) F
answered n F disk after gates d w =
    let bytes : bytes_at after n.cert ≡ w.text = ap (λ (x : Disk). bytes_at x n.cert) (sym d) ∙ ap (λ b. unwrap_or b []) w.bytes in
    record {
      made = w.made;
      gates = gates;
      canonical = subst (λ (xs : List ℕ). IsCanonical w.made gates xs) (sym bytes) w.canonical;
      skolem = w.circuits.skolem;
    }

solved : (answer : Status) (n : SolveFiles) (budget : Option ℕ) (before after : Disk) → SolvesExactly answer n budget before (Some after) → SaysTruth answer n before after
solved answer n budget before after h = record { holds = yes_is; fails = no_is }
  where
    yes_is : answer ≡ status.True → (F : PrenexFormula) → IsFileOf (bytes_at before n.input) F → Holds F × HoldsSkolem (bytes_at after n.cert) F
    yes_is e F f =
        let d = h.ended (inl e) in
        let from : d.from ≡ F = one_formula (bytes_at before n.input) d.from F d.reduced.is_input f in
        let disk : d.disk ≡ after = some-same d.disk after (sym d.told) in
        let w = d.holds.circuits e in
        (subst Holds from (d.holds.holds.0 e).1, subst (HoldsSkolem (bytes_at after n.cert)) from (answered n d.from d.disk after w.0 disk w.1))

    no_is : answer ≡ status.False → (F : PrenexFormula) → IsFileOf (bytes_at before n.input) F → ¬ Holds F
    no_is e F f t =
        let d = h.ended (inr (inl e)) in
        let from : F ≡ d.from = one_formula (bytes_at before n.input) F d.from f d.reduced.is_input in
        (d.holds.fails.0 e).1 (subst Holds from t)

pub further : Further
further = record {
  validate = validated;
  refute = λ answer n before after h k. record {
    ends = h.herbrand k;
    fails = fails n before k;
    herbrand = λ e F f. let w = h.written e in held n before after w.0 w.1 k F f;
  };
  solve = solved;
}
