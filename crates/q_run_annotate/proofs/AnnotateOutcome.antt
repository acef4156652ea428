-- What an outcome says, from its parts.
use Rattle.std.proofs.Common.{ℕ, List, Option, None, Some, IfSome}
use Rattle.q_io.specs.Files.{Disk, HoldsBytes, MayHoldFront, bytes_at}
use Rattle.q_shares.specs.Shares.{Share}
use Rattle.q_command.specs.Checks.{AreEnds, Checks, IsEarly}
use Rattle.q_command.specs.declared.checking.Ends.{Ends}
use Rattle.q_command.specs.declared.outcome.Outcome.{Outcome}
use Rattle.q_command.specs.declared.outcome.Outcome.TheVariants as outcome
use Rattle.q_command.specs.declared.outcome.Role.TheVariants.{In, Out}
use Rattle.q_run_annotate.specs.Annotates.{AnnotateFiles, Annotation, ChecksBy, IsAnnotatedBy, IsWholeBy, IsPartBy, Refusal}
use Rattle.q_run_annotate.specs.AnnotatedShares.{IsShareAnnotation}
use Rattle.q_run_annotate.specs.AnnotatedParts.{IsAnnotatedShared, LogRefusesShared}

module _ (A : Annotation) (n : AnnotateFiles) (before : Disk) (after : Option Disk) (steps : ℕ) (text : List ℕ) (h : IsAnnotatedBy A n before steps text) where
  pub whole : HoldsBytes n.hinted text before after → IsWholeBy A steps n before after
  whole b = record { from = h.from; to = h.to; is_input = h.is_input; is_output = h.is_output; holds = (text, h.holds, b) }

  pub part : MayHoldFront n.hinted text before after → IsPartBy A n before after
  part b = record { from = h.from; to = h.to; is_input = h.is_input; is_output = h.is_output; holds = (steps, text, h.holds, b) }

-- IN or OUT holds no formula, or could not be read
pub early_checks : (R : Refusal) (w : Outcome) (i o l : List ℕ) → IsEarly w → Checks w i o l → ChecksBy R w i o
early_checks R (outcome.Verified n) i o l e h = absurd e
early_checks R (outcome.RefusedLine n c) i o l e h = absurd e
early_checks R (outcome.RefusedEnd c) i o l e h = absurd e
early_checks R (outcome.RefusedInput In n c) i o l e h = h
early_checks R (outcome.RefusedInput Out n c) i o l e h = h
early_checks R outcome.ReadFault i o l e h = tt
early_checks R outcome.NoMemory i o l e h = tt

-- the log is refused
pub log_checks : (j : Share) (w : Outcome) (i o l : List ℕ) (e : Ends) → AreEnds i o e → LogRefusesShared j w e.from e.to l → ChecksBy (λ x F G. LogRefusesShared j x F G l) w i o
log_checks j (outcome.Verified n) i o l e f h = h
log_checks j (outcome.RefusedLine n c) i o l e f h = record { from = e.from; to = e.to; is_input = f.is_input; is_output = f.is_output; holds = h }
log_checks j (outcome.RefusedEnd c) i o l e f h = record { from = e.from; to = e.to; is_input = f.is_input; is_output = f.is_output; holds = h }
log_checks j (outcome.RefusedInput r n c) i o l e f h = absurd h
log_checks j outcome.ReadFault i o l e f h = tt
log_checks j outcome.NoMemory i o l e f h = tt

-- the formulas and the text of the log between them
pub between_ends : (j : Share) (o : Option Disk) (n : AnnotateFiles) (e : Ends) (steps : ℕ) (text : List ℕ) → IfSome o (λ d. AreEnds (bytes_at d n.input) (bytes_at d n.output) e) → IfSome o (λ d. IsShareAnnotation j (bytes_at d n.log) steps e.from e.to text) → IfSome o (λ d. IsAnnotatedShared j n d steps text)
between_ends j None n e steps text f t = tt
between_ends j (Some d) n e steps text f t = record { from = e.from; to = e.to; is_input = f.is_input; is_output = f.is_output; holds = t }
