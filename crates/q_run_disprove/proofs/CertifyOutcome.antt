-- What an outcome of `disprove` with circuits says, from its parts.
use Rattle.std.proofs.Common.{◌≡◌, ◌≢◌, ◌∙◌, inl, inr, sym, subst, refl, ap, ℕ, Bool, true, false, List, Option, Some, None, IfSome}
use Rattle.q_logic.specs.Prelude.{PrenexFormula, CertificateView, standard}
use Rattle.q_logic.proofs.ForthRuns.{reversals-none_extended}
use Rattle.q_io.specs.Files.{Disk, bytes_at}
use Rattle.q_shares.specs.Shares.{Share}
use Rattle.q_refutation.proofs.FirstEmpty.{alike_lost}
use Rattle.q_refutation.proofs.Refusing.{number-refutes}
use Rattle.q_refutation.proofs.SharedRefuting.{whole-in}
use Rattle.q_herbrand.specs.Disproved.{IsDisproved}
use Rattle.q_herbrand.specs.Trails.{HasMade, Trailed}
use Rattle.q_aiger.specs.Writing.{IsCanonical}
use Rattle.q_log.specs.Logs.{Parsed}
use Rattle.q_command.specs.Checks.{IsFileOf}
use Rattle.q_command.specs.Inputs.{IsRefused as IsInputRefused}
use Rattle.q_command.specs.Logs.{Entry, steps_of}
use Rattle.q_command.specs.declared.input.InputError.{InputError}
use Rattle.q_command.specs.declared.input.InputError.TheVariants as input
use Rattle.q_command.specs.Parts.{IsWhole}
use Rattle.q_command.proofs.LogEntries.{steps_of-append}
use Rattle.q_run_disprove.specs.Certifying.{Certifies, CertifyFiles, IsCertificate, IsPart, IsPlain}
use Rattle.q_run_disprove.specs.Disproofs.{IsRefutationIn, proof_of, refused_input}
use Rattle.q_run_disprove.specs.Extended.{FirstExtended}
use Rattle.q_run_disprove.specs.Notes.{AreLast, IfFalse}
use Rattle.q_run_disprove.specs.Readings.{SaysWith}
use Rattle.q_run_disprove.specs.Settling.{Puts, SaysOnly, Settles, SettlesAll}
use Rattle.q_run_disprove.specs.SharedDisproofs.{IsShareRefutationIn, SaysShared}
use Rattle.q_run_disprove.specs.declared.certified.Certified.{Certified}
use Rattle.q_run_disprove.specs.declared.certified.Certified.TheVariants as certified
use Rattle.q_run_disprove.specs.declared.disproved.Disproved.{Disproved}
use Rattle.q_run_disprove.specs.declared.disproved.Disproved.TheVariants as outcome
use Rattle.q_run_disprove.specs.declared.notes.Notes.{Notes}
use Rattle.q_run_disprove.specs.declared.notes.Notes.TheVariants as notes
use Rattle.q_run_disprove.specs.declared.verdict.Verdict.{Verdict}
use Rattle.q_run_disprove.proofs.DisproveOutcome.{whole-of_files}
use Rattle.q_run_disprove.proofs.NotedSteps.{extended-stays, plain-front, trail-alike}

-- IN holds F, and PROOF was read as a whole
module _ (n : CertifyFiles) (binary : Bool) (before : Disk) (after : Option Disk) (j : Share) (w : IsWhole j) (F : PrenexFormula) (is_input : IsFileOf (bytes_at before n.read.input) F) where
  abbrev proof : Parsed
  proof = proof_of binary (bytes_at before n.read.proof)

  module _ (k : ℕ) (refutation : IsShareRefutationIn j k F proof) where
    number : IsRefutationIn k F proof
    number = whole-in j w standard 0 F (steps_of proof.steps) k refutation

    -- an extended drop
    extended : (line : ℕ) → AreLast true j F proof (notes.Extended line) → FirstExtended F proof.steps line
    extended line a =
        subst (λ (es : List Entry). FirstExtended F es line) (sym a.whole) (extended-stays F a.front a.rest line a.notes)

    -- none
    module _ (G : PrenexFormula) (t : Trailed) (a : AreLast true j F proof (notes.Kept G t)) where
      made-steps : HasMade F (steps_of a.front) t
      made-steps = a.notes.1

      plain : IsPlain F proof
      plain line h =
          plain-front j 0 F a.last a.front a.rest line a.taken (reversals-none_extended F (steps_of a.front) t.reversals made-steps.reversals) a.lost
          (subst (λ (es : List Entry). FirstExtended F es line) a.whole h)

      certificate : (made : CertificateView) → IsDisproved G t made → (gates : ℕ) (text : List ℕ) → IsCanonical made gates text →
          IsCertificate gates F proof text
      certificate made d gates text canonical = record {
        front = steps_of a.front;
        rest = steps_of a.rest;
        whole = ap steps_of a.whole ∙ steps_of-append a.front a.rest;
        trail = t;
        made_steps = made-steps;
        lost = alike_lost a.last t.formula (trail-alike j F a.last (steps_of a.front) t a.taken made-steps) a.lost;
        made = made;
        disproved = subst (λ (H : PrenexFormula). IsDisproved H t made) a.notes.0 d;
        canonical = canonical;
      }

      put-part : (made : CertificateView) → IsDisproved G t made → Puts certified.WriteFault k made n.cert before after → IsPart n binary before after
      put-part made d (gates, text, canonical, left) = record {
        formula = F;
        is_input = is_input;
        holds = record { gates = gates; text = text; certificate = certificate made d gates text canonical; left = left };
      }

      put-says : (made : CertificateView) → IsDisproved G t made → (o : Certified) → Puts o k made n.cert before after → Certifies o n binary before after
      put-says made d (certified.False i) (e, (gates, (text, canonical, holds))) = record {
        formula = F;
        is_input = is_input;
        holds = record {
          refutation = subst (λ (m : ℕ). IsRefutationIn m F proof) (sym e) number;
          plain = plain;
          gates = gates;
          text = text;
          certificate = certificate made d gates text canonical;
          written = holds;
        };
      }
      put-says made d (certified.Extended line) p = absurd p
      put-says made d (certified.Undisproved x) p = absurd p
      put-says made d certified.WriteFault p = put-part made d p
      put-says made d certified.NoMemory (inl same) = inl same
      put-says made d certified.NoMemory (inr p) = inr (put-part made d p)

    settled : (ns : Notes) (o : Certified) → AreLast true j F proof ns → Settles ns k o n.cert before after → Certifies o n binary before after
    settled notes.Unkept o a (e, same) = subst (λ (x : Certified). Certifies x n binary before after) (sym e) (inl same)
    settled (notes.Kept G t) o a (inl (e, same)) = subst (λ (x : Certified). Certifies x n binary before after) (sym e) (inl same)
    settled (notes.Kept G t) o a (inr (made, d, p)) = put-says G t a made d o p
    settled (notes.Extended line) o a (e, same) =
        subst (λ (x : Certified). Certifies x n binary before after) (sym e) (
          record {
            formula = F;
            is_input = is_input;
            holds = (number-refutes false standard F (steps_of proof.steps) k number, extended line a);
          },
          same,
        )

  -- nothing is created
  only : (x : Disproved) (o : Certified) → o ≡ certified.Undisproved x → Certifies (certified.Undisproved x) n binary before after → Certifies o n binary before after
  only x o e h = subst (λ (y : Certified). Certifies y n binary before after) (sym e) h

  pub all-settled : (x : Disproved) (ns : Notes) (o : Certified) → SaysShared j x F proof → IfFalse x (AreLast true j F proof ns) →
      SettlesAll x ns o n.cert before after → Certifies o n binary before after
  all-settled (outcome.False k) ns o s a h = settled k s ns o a h
  all-settled (outcome.RefusedLine k c) ns o s a (e, same) =
      only (outcome.RefusedLine k c) o e
      (tt, whole-of_files j w (outcome.RefusedLine k c) n.read binary before F is_input s, same)
  all-settled outcome.RefusedEnd ns o s a (e, same) =
      only outcome.RefusedEnd o e (tt, whole-of_files j w outcome.RefusedEnd n.read binary before F is_input s, same)
  all-settled (outcome.RefusedInput k c) ns o s a h = absurd s
  all-settled outcome.ReadFault ns o s a (e, same) = only outcome.ReadFault o e (tt, tt, same)
  all-settled outcome.NoMemory ns o s a (e, same) = only outcome.NoMemory o e (tt, tt, same)

-- the same over what files tell, if they tell it
pub settled-files : (n : CertifyFiles) (binary : Bool) (j : Share) (v : Verdict) (o : Certified) (F : PrenexFormula) (held after : Option Disk) → IsWhole j →
    IfSome held (λ disk. IsFileOf (bytes_at disk n.read.input) F) →
    IfSome held (λ disk. SaysWith true j v F (proof_of binary (bytes_at disk n.read.proof))) →
    IfSome held (λ disk. SettlesAll v.outcome v.notes o n.cert disk after) → IfSome held (λ disk. Certifies o n binary disk after)
settled-files n binary j v o F None after w f s h = tt
settled-files n binary j v o F (Some disk) after w f s h = all-settled n binary disk after j w F f v.outcome v.notes o s.says s.notes h

-- where no formula was read
input-certifies : (e : InputError) (w : Disproved) (n : CertifyFiles) (binary : Bool) (before : Disk) (after : Option Disk) → w ≡ refused_input e →
    IsInputRefused e (bytes_at before n.read.input) → after ≡ Some before → Certifies (certified.Undisproved w) n binary before after
input-certifies (input.Refused k c) w n binary before after q h same =
    subst (λ (x : Disproved). Certifies (certified.Undisproved x) n binary before after) (sym q) (tt, h, same)
input-certifies input.Fault w n binary before after q h same =
    subst (λ (x : Disproved). Certifies (certified.Undisproved x) n binary before after) (sym q) (tt, tt, same)
input-certifies input.NoMemory w n binary before after q h same =
    subst (λ (x : Disproved). Certifies (certified.Undisproved x) n binary before after) (sym q) (tt, tt, same)

pub input-files : (e : InputError) (w : Disproved) (n : CertifyFiles) (binary : Bool) (held after : Option Disk) → w ≡ refused_input e → after ≡ held →
    IfSome held (λ disk. IsInputRefused e (bytes_at disk n.read.input)) → IfSome held (λ disk. Certifies (certified.Undisproved w) n binary disk after)
input-files e w n binary None after q same h = tt
input-files e w n binary (Some disk) after q same h = input-certifies e w n binary disk after q h same

-- one thing is said, and no file changes
pub only-told : (due : Certified) (held : Option Disk) → IfSome held (λ disk. SaysOnly due due disk held)
only-told due None = tt
only-told due (Some disk) = (refl, refl)

pub only-kept : (F : PrenexFormula) (t : Trailed) (k : ℕ) (name : List ℕ) (held : Option Disk) →
    IfSome held (λ disk. Settles (notes.Kept F t) k certified.NoMemory name disk held)
only-kept F t k name None = tt
only-kept F t k name (Some disk) = inl (refl, refl)

pub put-kept : (F : PrenexFormula) (t : Trailed) (k : ℕ) (o : Certified) (made : CertificateView) (name : List ℕ) (held after : Option Disk) → IsDisproved F t made →
    IfSome held (λ disk. Puts o k made name disk after) → IfSome held (λ disk. Settles (notes.Kept F t) k o name disk after)
put-kept F t k o made name None after d p = tt
put-kept F t k o made name (Some disk) after d p = inr (made, d, p)

-- where the empty clause did not come
pub not-false-told : (x : Disproved) (ns : Notes) (name : List ℕ) (held : Option Disk) → ((k : ℕ) → x ≢ outcome.False k) →
    IfSome held (λ disk. SettlesAll x ns (certified.Undisproved x) name disk held)
not-false-told x ns name None f = tt
not-false-told (outcome.False k) ns name (Some disk) f = absurd (f k refl)
not-false-told (outcome.RefusedLine k c) ns name (Some disk) f = (refl, refl)
not-false-told outcome.RefusedEnd ns name (Some disk) f = (refl, refl)
not-false-told (outcome.RefusedInput k c) ns name (Some disk) f = (refl, refl)
not-false-told outcome.ReadFault ns name (Some disk) f = (refl, refl)
not-false-told outcome.NoMemory ns name (Some disk) f = (refl, refl)
