-- When each status of a part of `disprove` comes.
use Rattle.std.proofs.Common.{◌≡◌, inl, inr, subst, ℕ, Bool, Option, None, Some}
use Rattle.q_logic.specs.Prelude.{PrenexFormula, standard}
use Rattle.q_io.specs.Files.{Disk, bytes_at}
use Rattle.q_log.specs.Logs.{Parsed}
use Rattle.q_shares.specs.Shares.{Share}
use Rattle.q_refutation.specs.SharedRefutations.{RefusedShared}
use Rattle.q_refutation.proofs.SharedRefuting.{number-shared, shared-not_both}
use Rattle.q_command.specs.Checks.{IsNoFormula, MayCome}
use Rattle.q_command.specs.Logs.{steps_of}
use Rattle.q_command.specs.Parts.{share_of}
use Rattle.q_command.specs.Sinks.{SinkView, IsDue}
use Rattle.q_command.specs.Statuses.{status_of}
use Rattle.q_command.specs.declared.outcome.Outcome.{Outcome}
use Rattle.q_command.specs.declared.outcome.Outcome.TheVariants as shared
use Rattle.q_command.specs.declared.outcome.Role.TheVariants.{In, Out}
use Rattle.q_command.specs.declared.part.Part.{Part}
use Rattle.q_command.specs.declared.status.Status.{Status}
use Rattle.q_command.specs.declared.status.Status.TheVariants as status
use Rattle.q_command.proofs.CheckStatus.{one_formula, no_offence}
use Rattle.q_command.proofs.OutcomeStatus.{check-usage}
use Rattle.q_command.proofs.ToldLaws.{ToldLaws, exact}
use Rattle.q_run_disprove.specs.Disproofs.{DisproveFiles, proof_of}
use Rattle.q_run_disprove.specs.SharedDisproofs.{IsNoShareDisproof, IsShareDisproof, IsShareRefutation, PartDisproves, PartDisprovesExactly, PartSays, ShareEndFails, ShareLineFails, told_part}
use Rattle.q_run_disprove.proofs.DisproveStatus.{due, not-due, faulty, log-stays, input-stays}

done-stays : MayCome status.Done → ⊥
done-stays (inl a) = cc
done-stays (inr (inl a)) = cc
done-stays (inr (inr a)) = cc

module _ (j : Share) where
  -- what is refused is no refutation
  refused-not : (F : PrenexFormula) (p : Parsed) (at : ℕ) (cause : Option ℕ) → RefusedShared j standard 0 F (steps_of p.steps) at cause → IsShareRefutation j F p → ⊥
  refused-not F p at cause r h = shared-not_both j standard 0 F (steps_of p.steps) at cause h r

  line-not : (k c : ℕ) (F : PrenexFormula) (p : Parsed) → ShareLineFails j k c F p → IsShareRefutation j F p → ⊥
  line-not k c F p (inl (at, r, l)) h = refused-not F p at (Some c) r h
  line-not k c F p (inr ((at, r), o)) h = refused-not F p at None r h

  end-not : (F : PrenexFormula) (p : Parsed) → ShareEndFails j F p → IsShareRefutation j F p → ⊥
  end-not F p ((at, r), o) h = refused-not F p at None r h

module _ (j : Share) (given : Status) (n : DisproveFiles) (binary : Bool) (before : Disk) (after : Option Disk) where
  abbrev Result : Type 0
  Result = PartDisprovesExactly j given n binary before after

  -- the file holds one formula
  apart : IsShareDisproof j n binary before → IsNoShareDisproof j n binary before → ⊥
  apart p q =
      q.holds (subst (λ (F : PrenexFormula). IsShareRefutation j F (proof_of binary (bytes_at before n.proof))) (one_formula (bytes_at before n.input) p.formula q.formula p.is_input q.is_input) p.holds)

  verified : IsShareDisproof j n binary before → after ≡ Some before → given ≡ status.Done → Result
  verified p same e = record {
    verified = due given status.Done (IsShareDisproof j n binary before) e p;
    log_refused = not-due given status.Done status.LogRefused (IsNoShareDisproof j n binary before) e (λ x. cc) (λ q. apart p q);
    input_refused = not-due given status.Done status.InputRefused (IsNoFormula (bytes_at before n.input)) e (λ x. cc) (λ z. z p.formula p.is_input);
    untouched = same;
  }

  refused : IsNoShareDisproof j n binary before → after ≡ Some before → given ≡ status.LogRefused → Result
  refused p same e = record {
    verified = not-due given status.LogRefused status.Done (IsShareDisproof j n binary before) e (λ x. cc) (λ q. apart q p);
    log_refused = due given status.LogRefused (IsNoShareDisproof j n binary before) e p;
    input_refused = not-due given status.LogRefused status.InputRefused (IsNoFormula (bytes_at before n.input)) e (λ x. cc) (λ z. z p.formula p.is_input);
    untouched = same;
  }

  no-formula : IsNoFormula (bytes_at before n.input) → after ≡ Some before → given ≡ status.InputRefused → Result
  no-formula z same e = record {
    verified = not-due given status.InputRefused status.Done (IsShareDisproof j n binary before) e (λ x. cc) (λ q. z q.formula q.is_input);
    log_refused = not-due given status.InputRefused status.LogRefused (IsNoShareDisproof j n binary before) e (λ x. cc) (λ q. z q.formula q.is_input);
    input_refused = due given status.InputRefused (IsNoFormula (bytes_at before n.input)) e z;
    untouched = same;
  }

  fault : MayCome given → after ≡ Some before → Result
  fault m same = record {
    verified = faulty given status.Done (IsShareDisproof j n binary before) m done-stays;
    log_refused = faulty given status.LogRefused (IsNoShareDisproof j n binary before) m log-stays;
    input_refused = faulty given status.InputRefused (IsNoFormula (bytes_at before n.input)) m input-stays;
    untouched = same;
  }

  due-answers : (o : Outcome) → PartSays j o n binary before → after ≡ Some before → given ≡ status_of o → Result
  due-answers (shared.Verified k) h same e =
      verified (record { formula = h.formula; is_input = h.is_input; holds = number-shared j standard 0 h.formula _ k h.holds }) same e
  due-answers (shared.RefusedLine k c) h same e =
      refused (record { formula = h.formula; is_input = h.is_input; holds = line-not j k c h.formula _ h.holds }) same e
  due-answers (shared.RefusedEnd c) h same e =
      refused (record { formula = h.1.formula; is_input = h.1.is_input; holds = end-not j h.1.formula _ h.1.holds }) same e
  due-answers (shared.RefusedInput In k c) h same e = no-formula (λ F f. no_offence (bytes_at before n.input) F k c h f) same e
  due-answers (shared.RefusedInput Out k c) h same e = absurd h
  due-answers shared.ReadFault h same e = fault (inl e) same
  due-answers shared.NoMemory h same e = fault (inr (inr e)) same

  pub part-answers : (o : Outcome) (old new : SinkView) → PartDisproves j o n binary before after → IsDue (status_of o) given old new → Result
  part-answers o old new h (inl e) = due-answers o h.0 h.1 e
  part-answers o old new h (inr (inl e)) = fault (inr (inl e.0)) h.1
  part-answers o old new h (inr (inr e)) = fault (inr (inr e.0)) h.1

pub laws : (n : DisproveFiles) (binary : Bool) (p : Part) → ToldLaws (told_part n binary p)
laws n binary p = record {
  gives = λ o given disk after old new h d. part-answers (share_of p) given n binary disk after o old new h d;
  no_usage = check-usage;
  answers = λ given disk after m g. (exact given status.Done _ m g.verified, exact given status.LogRefused _ m g.log_refused);
}
