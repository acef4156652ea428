-- What `refute` leaves, from its parts.
use Rattle.std.proofs.Common.{◌≡◌, ◌⊎◌, inl, inr, List, true, refl, sym, ap, subst, Option, Some, None, IfSome}
use Rattle.q_logic.specs.Prelude.{PrenexFormula, CertificateView}
use Rattle.q_logic.specs.Reversals.{Reversal, Reversals}
use Rattle.q_logic.proofs.ForthRuns.{reversals-none_extended}
use Rattle.q_io.specs.Files.{Disk, bytes_at}
use Rattle.q_aiger.specs.Circuits.{AreCircuits}
use Rattle.q_herbrand.specs.Refusals.{IsRefused}
use Rattle.q_herbrand.specs.declared.error.HerbrandError.{HerbrandError}
use Rattle.q_herbrand.specs.declared.error.HerbrandError.TheVariants as refusal
use Rattle.q_command.specs.Checks.{FilesPass, IsRunLog}
use Rattle.q_command.specs.Logs.{Entry, steps_of}
use Rattle.q_command.specs.Statuses.{status_of}
use Rattle.q_command.specs.Taken.{AreRun, entries_of}
use Rattle.q_command.specs.Texts.{MayHoldCircuits}
use Rattle.q_command.specs.declared.audit.Keep.{Keep}
use Rattle.q_command.specs.declared.checking.Checked.{Checked}
use Rattle.q_command.specs.declared.outcome.Outcome.{Outcome}
use Rattle.q_command.specs.declared.outcome.Outcome.TheVariants as outcome
use Rattle.q_command.specs.declared.status.Status.TheVariants as status
use Rattle.q_command.proofs.OutcomeStatus.{check-read}
use Rattle.q_run_refute.specs.Refutes.{error_of, RefuteFiles, OfRun, Brings, AreRefused, AreCarried, CircuitsFail, FaultsReading, IsOfCircuits, IsPart, IsPlainRun, Puts, Refutes, not_reversed}
use Rattle.q_run_refute.specs.Reversing.{IsUnreversed}
use Rattle.q_run_refute.specs.RefutedLines.{status_of_refuted}
use Rattle.q_run_refute.specs.declared.refuted.Refuted.{Refuted}
use Rattle.q_run_refute.specs.declared.refuted.Refuted.TheVariants.{Written, Unverified, Extended, RefusedText, RefusedCircuits, TrueOutput, ReadFault, WriteFault, NoMemory}
use Rattle.q_run_refute.specs.declared.reversing.Unreversed.{Unreversed}
use Rattle.q_run_refute.specs.declared.reversing.Unreversed.TheVariants as reversing

-- the steps that were kept
abbrev kept : Checked → List Entry
kept c = entries_of c.taken.items

module _ (keep : Keep) (steps : keep.steps ≡ true) (n : RefuteFiles) (before : Disk) (after : Option Disk) (c : Checked) (p : FilesPass keep (bytes_at before n.input) (bytes_at before n.output) (bytes_at before n.log) c) (run : AreRun keep.steps c.from c.to c.taken.items) where
  log : IsRunLog (bytes_at before n.log) c.from c.to (kept c)
  log = subst (λ (es : List Entry). IsRunLog (bytes_at before n.log) c.from c.to es) (sym (p.taken steps)) p.log.leads

  of_run : {P : PrenexFormula → List Entry → PrenexFormula → Type 0} → P c.from (kept c) c.to → OfRun n before P
  of_run h = record {
    from = c.from;
    to = c.to;
    entries = kept c;
    is_input = p.is_input;
    is_output = p.is_output;
    log = log;
    holds = h;
  }

  pub unreversed-refutes : (e : Unreversed) → IsUnreversed c.from (kept c) e → after ≡ Some before →
      Refutes (not_reversed e) n before after
  unreversed-refutes (reversing.Extended line) h same = (of_run h, same)
  unreversed-refutes reversing.NoMemory h same = inl same

  module _ (rs : List Reversal) (reversals : Reversals c.from (steps_of (kept c)) rs) where
    brings : (given : CertificateView) → AreCircuits (bytes_at before n.herbrand) given →
        Brings n before c.from c.to rs given
    brings given circuits = record {
      entries = kept c;
      is_input = p.is_input;
      is_output = p.is_output;
      log = log;
      reversals = reversals;
      circuits = circuits;
    }

    refused : (e : HerbrandError) (given : CertificateView) → AreCircuits (bytes_at before n.herbrand) given →
        IsRefused c.to given e → AreRefused e n before
    refused e given circuits h = record {
      from = c.from;
      to = c.to;
      reversals = rs;
      given = given;
      brings = brings given circuits;
      holds = h;
    }

    -- steps with reversals have no extended drop
    pub plain-run : IsPlainRun n before
    plain-run = of_run (reversals-none_extended c.from (steps_of (kept c)) rs reversals)

    pub circuits-refutes : (r : Refuted) → IsOfCircuits r → CircuitsFail r c.to (bytes_at before n.herbrand) →
        after ≡ Some before → Refutes r n before after
    circuits-refutes (Written g) i h same = elim h [ ]
    circuits-refutes (Unverified o) i h same = elim h [ ]
    circuits-refutes (Extended line) i h same = elim h [ ]
    circuits-refutes (RefusedText k z) i h same = (plain-run, h, same)
    circuits-refutes (RefusedCircuits w) i (given, a, h) same = (refused (error_of w) given a h, same)
    circuits-refutes TrueOutput i (given, a, h) same = (refused refusal.TrueOutput given a h, same)
    circuits-refutes ReadFault i h same = same
    circuits-refutes WriteFault i h same = elim h [ ]
    circuits-refutes NoMemory i h same = inl same

    module _ (made : CertificateView) (m : AreCarried c rs (bytes_at before n.herbrand) made) where
      part : MayHoldCircuits made n.cert before after → IsPart n before after
      part (g, text, canonical, front) = record {
        from = c.from;
        to = c.to;
        reversals = rs;
        given = m.0;
        brings = brings m.0 m.1;
        holds = (g, text, record { made = made; refuted = m.3; canonical = canonical }, front);
      }

      pub written-refutes : (r : Refuted) → Puts r made n.cert before after → Refutes r n before after
      written-refutes (Written g) (text, canonical, whole) = record {
        from = c.from;
        to = c.to;
        reversals = rs;
        given = m.0;
        brings = brings m.0 m.1;
        holds = (m.2, (text, record { made = made; refuted = m.3; canonical = canonical }, whole));
      }
      written-refutes (Unverified o) h = elim h [ ]
      written-refutes (Extended line) h = elim h [ ]
      written-refutes (RefusedText k z) h = elim h [ ]
      written-refutes (RefusedCircuits w) h = elim h [ ]
      written-refutes TrueOutput h = elim h [ ]
      written-refutes ReadFault h = elim h [ ]
      written-refutes WriteFault h = part h
      written-refutes NoMemory (inl e) = inl e
      written-refutes NoMemory (inr h) = inr (part h)

-- which outcomes give the statuses of faults
pub reading-status : (r : Refuted) → status_of_refuted r ≡ status.ReadFault → FaultsReading r
reading-status (Written g) e = cc
reading-status (Unverified o) e = inr (ap (λ (w : Outcome). Unverified w) (check-read o e))
reading-status (Extended n) e = cc
reading-status (RefusedText k c) e = cc
reading-status (RefusedCircuits w) e = cc
reading-status TrueOutput e = cc
reading-status ReadFault e = inl refl
reading-status WriteFault e = cc
reading-status NoMemory e = cc

writing-outcome : (o : Outcome) → status_of o ≡ status.WriteFault → ⊥
writing-outcome (outcome.Verified n) e = cc
writing-outcome (outcome.RefusedLine n c) e = cc
writing-outcome (outcome.RefusedEnd c) e = cc
writing-outcome (outcome.RefusedInput r n c) e = cc
writing-outcome outcome.ReadFault e = cc
writing-outcome outcome.NoMemory e = cc

pub writing-status : (r : Refuted) → status_of_refuted r ≡ status.WriteFault → r ≡ WriteFault
writing-status (Written g) e = cc
writing-status (Unverified o) e = absurd (writing-outcome o e)
writing-status (Extended n) e = cc
writing-status (RefusedText k c) e = cc
writing-status (RefusedCircuits w) e = cc
writing-status TrueOutput e = cc
writing-status ReadFault e = cc
writing-status WriteFault e = refl
writing-status NoMemory e = cc

-- an outcome of circuits is no other fault
pub circuits-not_write : (r : Refuted) → IsOfCircuits r → r ≡ WriteFault → ⊥
circuits-not_write r h e = subst IsOfCircuits e h

pub circuits-reading : {A B C D : Type 0} (r : Refuted) → IsOfCircuits r → (r ≡ ReadFault → D) → FaultsReading r →
    A ⊎ B ⊎ C ⊎ D
circuits-reading r h k (inl e) = inr (inr (inr (k e)))
circuits-reading r h k (inr e) = absurd (subst IsOfCircuits e h)

pub unverified-reading : (o : Outcome) → FaultsReading (Unverified o) → o ≡ outcome.ReadFault
unverified-reading o (inl e) = cc
unverified-reading o (inr e) = cc

-- the same over what files tell, if they tell it
module _ (keep : Keep) (steps : keep.steps ≡ true) (n : RefuteFiles) (c : Checked) (run : AreRun keep.steps c.from c.to c.taken.items) where
  abbrev Passed : Disk → Type 0
  Passed d = FilesPass keep (bytes_at d n.input) (bytes_at d n.output) (bytes_at d n.log) c

  pub unreversed-joined : (held after : Option Disk) (e : Unreversed) → IsUnreversed c.from (kept c) e →
      after ≡ held → IfSome held Passed → IfSome held (λ d. Refutes (not_reversed e) n d after)
  unreversed-joined None after e u same p = tt
  unreversed-joined (Some d) after e u same p = unreversed-refutes keep steps n d after c p run e u same

  module _ (rs : List Reversal) (reversals : Reversals c.from (steps_of (kept c)) rs) where
    pub plain-joined : (held : Option Disk) → IfSome held Passed → IfSome held (λ d. IsPlainRun n d)
    plain-joined None p = tt
    plain-joined (Some d) p = plain-run keep steps n d (Some d) c p run rs reversals

    pub circuits-joined : (held after : Option Disk) (r : Refuted) → IsOfCircuits r → after ≡ held →
        IfSome held Passed → IfSome held (λ d. CircuitsFail r c.to (bytes_at d n.herbrand)) →
        IfSome held (λ d. Refutes r n d after)
    circuits-joined None after r i same p h = tt
    circuits-joined (Some d) after r i same p h = circuits-refutes keep steps n d after c p run rs reversals r i h same

    pub written-joined : (held after : Option Disk) (made : CertificateView) (r : Refuted) → IfSome held Passed →
        IfSome held (λ d. AreCarried c rs (bytes_at d n.herbrand) made) →
        IfSome held (λ d. Puts r made n.cert d after) → IfSome held (λ d. Refutes r n d after)
    written-joined None after made r p m q = tt
    written-joined (Some d) after made r p m q =
        written-refutes keep steps n d after c p run rs reversals made m r q

-- steps without reversals are no fault
pub unreversed-not_reading : (e : Unreversed) → FaultsReading (not_reversed e) → ⊥
unreversed-not_reading (reversing.Extended line) (inl x) = cc
unreversed-not_reading (reversing.Extended line) (inr x) = cc
unreversed-not_reading reversing.NoMemory (inl x) = cc
unreversed-not_reading reversing.NoMemory (inr x) = cc

pub unreversed-not_writing : (e : Unreversed) → not_reversed e ≡ WriteFault → ⊥
unreversed-not_writing (reversing.Extended line) x = cc
unreversed-not_writing reversing.NoMemory x = cc
