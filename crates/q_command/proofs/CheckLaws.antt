-- What is shown of `check`.
use Rattle.std.proofs.Common.{◌≡◌, ℕ, List, Option, Some, None, IfSome}
use Rattle.q_logic.proofs.Common.{Run-justified}
use Rattle.q_logic.proofs.Repeated.{run-true_to}
use Rattle.q_io.specs.Files.{bytes_at}
use Rattle.q_command.specs.Checks.{Checks, HaveOneTruth, IfVerified, told}
use Rattle.q_command.specs.Logs.{steps_of}
use Rattle.q_command.specs.Names.{ThreeNames}
use Rattle.q_command.specs.declared.outcome.Outcome.{Outcome}
use Rattle.q_command.specs.declared.outcome.Outcome.TheVariants.{Verified, RefusedLine, RefusedEnd, RefusedInput, ReadFault, NoMemory}
use Rattle.q_command.specs.declared.status.Status.TheVariants as status
use Rattle.q_command.proofs.CheckStatus.{answers, one_truth}
use Rattle.q_command.proofs.FileFormulas.{file-formula}
use Rattle.q_command.proofs.OutcomeStatus.{check-usage}
use Rattle.q_command.proofs.ToldLaws.{ToldLaws, exact}
use Rattle.q_command.proofs.WholeLogs.{run_of}

-- a verified log leads from a formula to one that is true exactly where it is
verified-truth : (o : Outcome) (i u l : List ℕ) → Checks o i u l → IfVerified o (HaveOneTruth i u)
verified-truth (Verified n) i u l h =
    one_truth i u h.from h.to h.is_input h.is_output
    (run-true_to h.from (steps_of h.holds.0) h.to (file-formula i h.from h.is_input) (Run-justified h.from (steps_of h.holds.0) h.to (run_of l h.from h.to h.holds.0 h.holds.1)))
verified-truth (RefusedLine n c) i u l h = tt
verified-truth (RefusedEnd c) i u l h = tt
verified-truth (RefusedInput r n c) i u l h = tt
verified-truth ReadFault i u l h = tt
verified-truth NoMemory i u l h = tt

-- the same where the files may tell nothing
pub verified-truths : {D : Type 0} (w : Outcome) (o : Option D) (i u l : D → List ℕ) → IfSome o (λ d. Checks w (i d) (u d) (l d)) → IfVerified w (IfSome o (λ d. HaveOneTruth (i d) (u d)))
verified-truths (Verified n) None i u l h = tt
verified-truths (Verified n) (Some d) i u l h = verified-truth (Verified n) (i d) (u d) (l d) h
verified-truths (RefusedLine n c) o i u l h = tt
verified-truths (RefusedEnd c) o i u l h = tt
verified-truths (RefusedInput r n c) o i u l h = tt
verified-truths ReadFault o i u l h = tt
verified-truths NoMemory o i u l h = tt

pub laws : (n : ThreeNames) → ToldLaws (told n)
laws n = record {
  gives = λ o given disk after old new h d.
      let i = bytes_at disk n.input in
      let u = bytes_at disk n.output in
      let l = bytes_at disk n.log in
      answers o given i u l h (verified-truth o i u l h) d;
  no_usage = check-usage;
  answers = λ given disk after m g. (exact given status.Done _ m g.verified, exact given status.LogRefused _ m g.log_refused);
}
