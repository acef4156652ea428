-- What `rebuild` leaves, from its parts.
use Rattle.std.proofs.Common.{◌≡◌, ◌⊎◌, inl, inr, refl, ℕ, List, true, false, subst, Option, Some, None, IfSome}
use Rattle.q_logic.specs.Prelude.{CertificateView, PrenexFormula}
use Rattle.std.proofs.lemmas.Option.{IfSome_then}
use Rattle.q_io.specs.Files.{Disk, bytes_at}
use Rattle.q_command.specs.Checks.{FilesPass, IsVerified}
use Rattle.q_command.specs.declared.audit.Keep.{Keep}
use Rattle.q_io.specs.declared.error.DeviceError.{DeviceError}
use Rattle.q_io.specs.declared.error.DeviceError.TheVariants as device
use Rattle.q_command.specs.declared.outcome.Outcome.{Outcome}
use Rattle.q_command.specs.declared.outcome.Outcome.TheVariants as outcome
use Rattle.q_command.specs.declared.circuits.CircuitsError.{CircuitsError}
use Rattle.q_command.specs.declared.circuits.CircuitsError.TheVariants as unread
use Rattle.q_command.specs.Texts.{IsNoText, LeavesCircuits, MayHoldCircuits}
use Rattle.q_app.specs.Rebuilds.{FiveNames, error_of, five, AreCarried, AreRefused, Fails, CircuitsFail, FaultsReading, IsOfCircuits, IsPart, Puts, Rebuilds, failed_write, no_circuits}
use Rattle.q_command.specs.declared.checking.Checked.{Checked}
use Rattle.q_rebuild.specs.declared.error.RebuildError.{RebuildError}
use Rattle.q_rebuild.specs.declared.error.RebuildError.TheVariants as refusal
use Rattle.q_app.specs.declared.rebuilt.Rebuilt.{Rebuilt}
use Rattle.q_app.specs.declared.rebuilt.Rebuilt.TheVariants.{Written, Unverified, RefusedText, RefusedCircuits, FalseOutput, ReadFault, WriteFault, NoMemory}

-- what `rebuild` has kept of the log
abbrev undo_alone : Keep
undo_alone = record { undo = true; steps = false }

module _ (n : FiveNames) (before : Disk) (after : Option Disk) (c : Checked) (made : CertificateView) (p : FilesPass undo_alone (bytes_at before n.input) (bytes_at before n.output) (bytes_at before n.log) c) (m : AreCarried c (bytes_at before n.skolem) made) where
  part : MayHoldCircuits made n.cert before after → IsPart n before after
  part (g, text, canonical, front) = record {
    from = c.from;
    to = c.to;
    undo = c.undo;
    given = m.0;
    brings = record { is_input = p.is_input; is_output = p.is_output; steps = c.steps; log = p.log; circuits = m.1 };
    holds = (g, text, record { made = made; rebuilt = m.3; moves = m.4; canonical = canonical }, front);
  }

  pub rebuilds : (r : Rebuilt) → Puts r made n.cert before after → Rebuilds r n before after
  rebuilds (Written g) (text, canonical, whole) = record {
    from = c.from;
    to = c.to;
    undo = c.undo;
    given = m.0;
    brings = record { is_input = p.is_input; is_output = p.is_output; steps = c.steps; log = p.log; circuits = m.1 };
    holds = (m.2, (text, record { made = made; rebuilt = m.3; moves = m.4; canonical = canonical }, whole));
  }
  rebuilds (Unverified o) h = elim h [ ]
  rebuilds (RefusedText k c) h = elim h [ ]
  rebuilds (RefusedCircuits w) h = elim h [ ]
  rebuilds FalseOutput h = elim h [ ]
  rebuilds ReadFault h = elim h [ ]
  rebuilds WriteFault h = part h
  rebuilds NoMemory (inl e) = inl e
  rebuilds NoMemory (inr h) = inr (part h)

-- an outcome of circuits is no other fault
pub circuits-not_write : (r : Rebuilt) → IsOfCircuits r → r ≡ WriteFault → ⊥
circuits-not_write r h e = subst IsOfCircuits e h

pub circuits-reading : {A B C D : Type 0} (r : Rebuilt) → IsOfCircuits r → (r ≡ ReadFault → D) → FaultsReading r → A ⊎ B ⊎ C ⊎ D
circuits-reading r h k (inl e) = inr (inr (inr (k e)))
circuits-reading r h k (inr e) = absurd (subst IsOfCircuits e h)

pub unverified-reading : (o : Outcome) → FaultsReading (Unverified o) → o ≡ outcome.ReadFault
unverified-reading o (inl e) = cc
unverified-reading o (inr e) = cc

-- the log is verified
pub verified-files : (held : Option Disk) (i o l : List ℕ) (c : Checked) → IfSome held (λ d. FilesPass undo_alone (bytes_at d i) (bytes_at d o) (bytes_at d l) c) → IfSome held (λ d. IsVerified (bytes_at d i) (bytes_at d o) (bytes_at d l))
verified-files held i o l c p =
    IfSome_then held p (λ d q. record { from = c.from; to = c.to; is_input = q.is_input; is_output = q.is_output; holds = (q.log.entries, q.log.leads) })

pub joined : (held after : Option Disk) (i o l s t : List ℕ) (c : Checked) (made : CertificateView) (r : Rebuilt) → IfSome held (λ d. FilesPass undo_alone (bytes_at d i) (bytes_at d o) (bytes_at d l) c) → IfSome held (λ d. AreCarried c (bytes_at d s) made) → IfSome held (λ d. Puts r made t d after) → IfSome held (λ d. Rebuilds r (five i o l s t) d after)
joined None after i o l s t c made r p m q = tt
joined (Some d) after i o l s t c made r p m q = rebuilds (five i o l s t) d after c made p m r q

-- why there are no circuits, as `rebuild` says it
pub no_text-fails : (e : CircuitsError) (G : PrenexFormula) (bytes : List ℕ) → IsNoText e bytes → CircuitsFail (no_circuits e) G bytes
no_text-fails (unread.Refused k c) G bytes h = h
no_text-fails unread.Fault G bytes h = tt
no_text-fails unread.NoMemory G bytes h = tt

pub no_circuits-fault : (e : CircuitsError) → no_circuits e ≡ ReadFault → e ≡ unread.Fault
no_circuits-fault (unread.Refused k c) h = cc
no_circuits-fault unread.Fault h = refl
no_circuits-fault unread.NoMemory h = cc

-- what stands where the certificate could not be written
pub leaves-puts : (e : DeviceError) (made : CertificateView) (name : List ℕ) (before : Disk) (after : Option Disk) → LeavesCircuits e made name before after → Puts (failed_write e) made name before after
leaves-puts device.Failed made name before after h = h
leaves-puts device.NoMemory made name before after h = h

pub failed_write-fault : (e : DeviceError) → failed_write e ≡ WriteFault → e ≡ device.Failed
failed_write-fault device.Failed h = refl
failed_write-fault device.NoMemory h = cc

-- what there is to say where the circuits were not carried back
module _ (n : FiveNames) (before : Disk) (after : Option Disk) (c : Checked) (p : FilesPass undo_alone (bytes_at before n.input) (bytes_at before n.output) (bytes_at before n.log) c) (same : after ≡ Some before) where
  refused : (e : RebuildError) → Fails e c.to (bytes_at before n.skolem) → AreRefused e n before
  refused e h = record {
    from = c.from;
    to = c.to;
    undo = c.undo;
    given = h.0;
    brings = record { is_input = p.is_input; is_output = p.is_output; steps = c.steps; log = p.log; circuits = h.1 };
    holds = h.2;
  }

  failing : (r : Rebuilt) → CircuitsFail r c.to (bytes_at before n.skolem) → Rebuilds r n before after
  failing (Written g) h = absurd h
  failing (Unverified o) h = absurd h
  failing (RefusedText k x) h = (
    record { from = c.from; to = c.to; is_input = p.is_input; is_output = p.is_output; holds = (p.log.entries, p.log.leads) },
    h,
    same,
  )
  failing (RefusedCircuits w) h = (refused (error_of w) h, same)
  failing FalseOutput h = (refused refusal.FalseOutput h, same)
  failing ReadFault h = same
  failing WriteFault h = absurd h
  failing NoMemory h = inl same

pub failed : (held after : Option Disk) (i o l s t : List ℕ) (c : Checked) (r : Rebuilt) → after ≡ held → IfSome held (λ d. FilesPass undo_alone (bytes_at d i) (bytes_at d o) (bytes_at d l) c) → IfSome held (λ d. CircuitsFail r c.to (bytes_at d s)) → IfSome held (λ d. Rebuilds r (five i o l s t) d after)
failed None after i o l s t c r e p f = tt
failed (Some d) after i o l s t c r e p f = failing (five i o l s t) d after c p e r f
