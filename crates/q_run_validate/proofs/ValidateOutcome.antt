-- What an outcome says, from its parts.
use Rattle.std.proofs.Common.{◌≡◌, ◌≢◌, sym, subst, refl, ℕ, Option, Some, None, IfSome}
use Rattle.q_logic.specs.Prelude.{PrenexFormula, CertificateView}
use Rattle.q_io.specs.Files.{Disk, bytes_at}
use Rattle.q_aiger.specs.Circuits.{AreCircuits}
use Rattle.q_command.specs.Checks.{IsFileOf, IsFormulaFile}
use Rattle.q_command.specs.Inputs.{IsRefused as IsInputRefused}
use Rattle.q_command.specs.Texts.{IsNoText}
use Rattle.q_command.specs.declared.input.InputError.{InputError}
use Rattle.q_command.specs.declared.input.InputError.TheVariants as input
use Rattle.q_command.specs.declared.circuits.CircuitsError.{CircuitsError}
use Rattle.q_command.specs.declared.circuits.CircuitsError.TheVariants as text
use Rattle.q_command.specs.declared.status.Status.TheVariants as status
use Rattle.q_validate.specs.declared.error.ValidateError.{ValidateError}
use Rattle.q_validate.specs.declared.error.ValidateError.TheVariants as refusal
use Rattle.q_validate.specs.Refusals.{IsRefused}
use Rattle.q_run_validate.specs.ValidatedLines.{status_of_validated}
use Rattle.q_run_validate.specs.Validates.{ValidateFiles, Judges, Says, Validates, refused_input, refused_text, refused_circuits}
use Rattle.q_run_validate.specs.declared.validated.Validated.{Validated}
use Rattle.q_run_validate.specs.declared.validated.Validated.TheVariants.{Valid, Invalid, Unknown, RefusedInput, RefusedText, RefusedCircuits, ReadFault, NoMemory}

-- a refusal of circuits is what the outcome says
pub refused-judges : (e : ValidateError) (o : Validated) (F : PrenexFormula) (c : CertificateView) (budget : Option ℕ) → o ≡ refused_circuits e →
    IsRefused F c e → Judges o F c budget
refused-judges e o F c budget q h = subst (λ (x : Validated). Judges x F c budget) (sym q) (go e h)
  where
    go : (e : ValidateError) → IsRefused F c e → Judges (refused_circuits e) F c budget
    go (refusal.MissingOutput v) h = h
    go (refusal.StrangeOutput v) h = h
    go (refusal.StrangeInput v) h = h
    go (refusal.Reads v u) h = h
    go refusal.NoMemory h = tt

pub judged-says : (o : Validated) (n : ValidateFiles) (budget : Option ℕ) (disk : Disk) (F : PrenexFormula) (c : CertificateView) →
    IsFileOf (bytes_at disk n.input) F → AreCircuits (bytes_at disk n.cert) c → Judges o F c budget → Says o n budget disk
judged-says Valid n budget disk F c f a h = record { formula = F; given = c; is_input = f; circuits = a; holds = h }
judged-says (Invalid line) n budget disk F c f a h = record { formula = F; given = c; is_input = f; circuits = a; holds = h }
judged-says Unknown n budget disk F c f a h = record { formula = F; given = c; is_input = f; circuits = a; holds = h }
judged-says (RefusedInput k e) n budget disk F c f a h = absurd h
judged-says (RefusedText k e) n budget disk F c f a h = absurd h
judged-says (RefusedCircuits w) n budget disk F c f a h = record { formula = F; given = c; is_input = f; circuits = a; holds = h }
judged-says ReadFault n budget disk F c f a h = absurd h
judged-says NoMemory n budget disk F c f a h = tt

pub judged-not_fault : (o : Validated) (F : PrenexFormula) (c : CertificateView) (budget : Option ℕ) → Judges o F c budget → status_of_validated o ≢ status.ReadFault
judged-not_fault Valid F c budget h e = cc
judged-not_fault (Invalid line) F c budget h e = cc
judged-not_fault Unknown F c budget h e = cc
judged-not_fault (RefusedInput k x) F c budget h e = h
judged-not_fault (RefusedText k x) F c budget h e = h
judged-not_fault (RefusedCircuits w) F c budget h e = cc
judged-not_fault ReadFault F c budget h e = h
judged-not_fault NoMemory F c budget h e = cc

-- no outcome tells of writing
pub never-write : (o : Validated) → status_of_validated o ≢ status.WriteFault
never-write Valid e = cc
never-write (Invalid line) e = cc
never-write Unknown e = cc
never-write (RefusedInput k c) e = cc
never-write (RefusedText k c) e = cc
never-write (RefusedCircuits w) e = cc
never-write ReadFault e = cc
never-write NoMemory e = cc

pub input-says : (e : InputError) (o : Validated) (n : ValidateFiles) (budget : Option ℕ) (disk : Disk) → o ≡ refused_input e →
    IsInputRefused e (bytes_at disk n.input) → Says o n budget disk
input-says e o n budget disk q h = subst (λ (x : Validated). Says x n budget disk) (sym q) (go e h)
  where
    go : (e : InputError) → IsInputRefused e (bytes_at disk n.input) → Says (refused_input e) n budget disk
    go (input.Refused k c) h = h
    go input.Fault h = tt
    go input.NoMemory h = tt

pub text-says : (e : CircuitsError) (o : Validated) (n : ValidateFiles) (budget : Option ℕ) (disk : Disk) → o ≡ refused_text e →
    IsFormulaFile (bytes_at disk n.input) → IsNoText e (bytes_at disk n.cert) → Says o n budget disk
text-says e o n budget disk q f h = subst (λ (x : Validated). Says x n budget disk) (sym q) (go e h)
  where
    go : (e : CircuitsError) → IsNoText e (bytes_at disk n.cert) → Says (refused_text e) n budget disk
    go (text.Refused k c) h = (f, h)
    go text.Fault h = tt
    go text.NoMemory h = tt

pub input-fault : (e : InputError) → status_of_validated (refused_input e) ≡ status.ReadFault → e ≡ input.Fault
input-fault (input.Refused k c) h = cc
input-fault input.Fault h = refl
input-fault input.NoMemory h = cc

pub text-fault : (e : CircuitsError) → status_of_validated (refused_text e) ≡ status.ReadFault → e ≡ text.Fault
text-fault (text.Refused k c) h = cc
text-fault text.Fault h = refl
text-fault text.NoMemory h = cc

-- no file changes
pub says-files : (o : Validated) (n : ValidateFiles) (budget : Option ℕ) (old new : Option Disk) → new ≡ old →
    IfSome old (λ disk. Says o n budget disk) → IfSome old (λ disk. Validates o n budget disk new)
says-files o n budget None new e h = tt
says-files o n budget (Some disk) new e h = (h, e)
