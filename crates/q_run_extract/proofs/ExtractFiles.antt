-- What `extract` leaves, from its parts.
use Rattle.std.proofs.Common.{◌≡◌, inl, inr, List, ℕ, refl, sym, ap, subst, Option, Some, None, IfSome}
use Rattle.q_logic.specs.Prelude.{PrenexFormula, CertificateView}
use Rattle.q_io.specs.Files.{Disk, bytes_at}
use Rattle.q_qrp.specs.Lines.{Proof}
use Rattle.q_qrp.specs.declared.trace.Verdict.{Verdict}
use Rattle.q_qrp.specs.declared.trace.Verdict.TheVariants as verdict
use Rattle.q_resolve.specs.declared.judged.Judged.TheVariants as judged
use Rattle.q_command.specs.Checks.{IsFileOf}
use Rattle.q_command.specs.Inputs.{IsRefused as IsInputRefused}
use Rattle.q_command.specs.declared.input.InputError.{InputError}
use Rattle.q_command.specs.declared.input.InputError.TheVariants as unread
use Rattle.q_command.specs.declared.status.Status.TheVariants as status
use Rattle.q_run_extract.specs.declared.extract.Claim.{Claim}
use Rattle.q_run_extract.specs.declared.extract.Claim.TheVariants as claim
use Rattle.q_run_extract.specs.declared.extracted.Extracted.{Extracted}
use Rattle.q_run_extract.specs.declared.extracted.Extracted.TheVariants as outcome
use Rattle.q_run_extract.specs.declared.trace_file.TraceFault.{TraceFault}
use Rattle.q_run_extract.specs.declared.trace_file.TraceFault.TheVariants as untraced
use Rattle.q_run_extract.specs.TraceFiles.{IsRefused}
use Rattle.q_run_extract.specs.ExtractedLines.{status_of_extracted}
use Rattle.q_run_extract.specs.Extracts.{ExtractFiles, IsTraceOf, Extracts, Settles, Puts, IsJudged, said, claim_of, refused_input, refused_trace}

pub said-of : (v : Verdict) (c : Claim) → claim_of v ≡ Some c → v ≡ said c
said-of verdict.Sat c e = let f : claim.True ≡ c = cc in ap said f
said-of verdict.Unsat c e = let f : claim.False ≡ c = cc in ap said f
said-of verdict.Unknown c e = cc

pub unknown-of : (v : Verdict) → claim_of v ≡ None → v ≡ verdict.Unknown
unknown-of verdict.Sat e = cc
unknown-of verdict.Unsat e = cc
unknown-of verdict.Unknown e = refl

-- circuits that were written, or not
pub puts-settles : (o : Extracted) (c : Claim) (F : PrenexFormula) (p : Proof) (made : CertificateView) (name : List ℕ) (before : Disk) (after : Option Disk) → p.verdict ≡ said c → IsJudged c F p (judged.Proved made)
    → Puts o c made name before after → Settles o F p name before after
puts-settles (outcome.True g) claim.True F p made name before after e (t, f, s) (x, h) = ((e, t), (made, (f, s), h))
puts-settles (outcome.True g) claim.False F p made name before after e j (x, h) = cc
puts-settles (outcome.False g) claim.True F p made name before after e j (x, h) = cc
puts-settles (outcome.False g) claim.False F p made name before after e (t, f, s) (x, h) = ((e, t), (made, (f, s), h))
puts-settles outcome.Unknown c F p made name before after e j h = elim h [ ]
puts-settles (outcome.RefusedTrace k x) c F p made name before after e j h = elim h [ ]
puts-settles (outcome.RefusedInput k x) c F p made name before after e j h = elim h [ ]
puts-settles outcome.ReadFault c F p made name before after e j h = elim h [ ]
puts-settles outcome.WriteFault claim.True F p made name before after e (t, f, s) h = (claim.True, (e, t), (made, (f, s), h))
puts-settles outcome.WriteFault claim.False F p made name before after e (t, f, s) h = (claim.False, (e, t), (made, (f, s), h))
puts-settles outcome.NoMemory claim.True F p made name before after e (t, f, s) (inl x) = inl x
puts-settles outcome.NoMemory claim.True F p made name before after e (t, f, s) (inr h) = inr (claim.True, (e, t), (made, (f, s), h))
puts-settles outcome.NoMemory claim.False F p made name before after e (t, f, s) (inl x) = inl x
puts-settles outcome.NoMemory claim.False F p made name before after e (t, f, s) (inr h) = inr (claim.False, (e, t), (made, (f, s), h))

pub puts-joined : (held after : Option Disk) (o : Extracted) (c : Claim) (F : PrenexFormula) (p : Proof) (made : CertificateView) (name : List ℕ) → p.verdict ≡ said c → IsJudged c F p (judged.Proved made)
    → IfSome held (λ d. Puts o c made name d after) → IfSome held (λ d. Settles o F p name d after)
puts-joined None after o c F p made name e j h = tt
puts-joined (Some d) after o c F p made name e j h = puts-settles o c F p made name d after e j h

pub refused-settles : (held after : Option Disk) (c : Claim) (F : PrenexFormula) (p : Proof) (name : List ℕ) (line cause : ℕ) → p.verdict ≡ said c → IsJudged c F p (judged.Refused line cause) → after ≡ held
    → IfSome held (λ d. Settles (outcome.RefusedTrace line cause) F p name d after)
refused-settles None after c F p name line cause e j same = tt
refused-settles (Some d) after claim.True F p name line cause e (n, f) same = (inl (e, n, f), same)
refused-settles (Some d) after claim.False F p name line cause e (n, f) same = (inr (e, n, f), same)

pub unknown-settles : (held after : Option Disk) (F : PrenexFormula) (p : Proof) (name : List ℕ) → p.verdict ≡ verdict.Unknown → after ≡ held → IfSome held (λ d. Settles outcome.Unknown F p name d after)
unknown-settles None after F p name e same = tt
unknown-settles (Some d) after F p name e same = (e, same)

pub memory-settles : (held after : Option Disk) (F : PrenexFormula) (p : Proof) (name : List ℕ) → after ≡ held → IfSome held (λ d. Settles outcome.NoMemory F p name d after)
memory-settles None after F p name same = tt
memory-settles (Some d) after F p name same = inl same

-- an input or a trace that is refused
input-says : (e : InputError) (n : ExtractFiles) (d : Disk) (after : Option Disk) → after ≡ Some d → IsInputRefused e (bytes_at d n.input) → Extracts (refused_input e) n d after
input-says (unread.Refused k c) n d after same h = (h, same)
input-says unread.Fault n d after same h = same
input-says unread.NoMemory n d after same h = inl same

trace-says : (e : TraceFault) (n : ExtractFiles) (d : Disk) (after : Option Disk) (F : PrenexFormula) → after ≡ Some d → IsFileOf (bytes_at d n.input) F → IsRefused e (bytes_at d n.trace) → Extracts (refused_trace e) n d after
trace-says (untraced.Refused k c) n d after F same f h = (inl (F, f, h), same)
trace-says untraced.Fault n d after F same f h = same
trace-says untraced.NoMemory n d after F same f h = inl same

settled-says : (o : Extracted) (n : ExtractFiles) (d : Disk) (after : Option Disk) (F : PrenexFormula) (p : Proof) → IsFileOf (bytes_at d n.input) F → IsTraceOf (bytes_at d n.trace) p → Settles o F p n.cert d after → Extracts o n d after
settled-says (outcome.True g) n d after F p f t h = record { formula = F; proof = p; is_input = f; is_trace = t; holds = h }
settled-says (outcome.False g) n d after F p f t h = record { formula = F; proof = p; is_input = f; is_trace = t; holds = h }
settled-says outcome.Unknown n d after F p f t h = (record { formula = F; proof = p; is_input = f; is_trace = t; holds = h.0 }, h.1)
settled-says (outcome.RefusedTrace k c) n d after F p f t h = (inr (record { formula = F; proof = p; is_input = f; is_trace = t; holds = h.0 }), h.1)
settled-says (outcome.RefusedInput k c) n d after F p f t h = elim h [ ]
settled-says outcome.ReadFault n d after F p f t h = elim h [ ]
settled-says outcome.WriteFault n d after F p f t h = record { formula = F; proof = p; is_input = f; is_trace = t; holds = h }
settled-says outcome.NoMemory n d after F p f t (inl h) = inl h
settled-says outcome.NoMemory n d after F p f t (inr h) = inr (record { formula = F; proof = p; is_input = f; is_trace = t; holds = h })

-- the same over what files tell, if they tell it
pub input-extracts : (n : ExtractFiles) (held after : Option Disk) (e : InputError) (o : Extracted) → o ≡ refused_input e → after ≡ held → IfSome held (λ d. IsInputRefused e (bytes_at d n.input)) → IfSome held (λ d. Extracts o n d after)
input-extracts n None after e o is same h = tt
input-extracts n (Some d) after e o is same h = subst (λ (x : Extracted). Extracts x n d after) (sym is) (input-says e n d after same h)

pub trace-extracts : (n : ExtractFiles) (held after : Option Disk) (e : TraceFault) (o : Extracted) (F : PrenexFormula) → o ≡ refused_trace e → after ≡ held
    → IfSome held (λ d. IsFileOf (bytes_at d n.input) F) → IfSome held (λ d. IsRefused e (bytes_at d n.trace)) → IfSome held (λ d. Extracts o n d after)
trace-extracts n None after e o F is same f h = tt
trace-extracts n (Some d) after e o F is same f h = subst (λ (x : Extracted). Extracts x n d after) (sym is) (trace-says e n d after F same f h)

pub settled-extracts : (n : ExtractFiles) (held after : Option Disk) (o : Extracted) (F : PrenexFormula) (p : Proof)
    → IfSome held (λ d. IsFileOf (bytes_at d n.input) F) → IfSome held (λ d. IsTraceOf (bytes_at d n.trace) p) → IfSome held (λ d. Settles o F p n.cert d after) → IfSome held (λ d. Extracts o n d after)
settled-extracts n None after o F p f t h = tt
settled-extracts n (Some d) after o F p f t h = settled-says o n d after F p f t h

-- which outcomes give the statuses of faults
pub input-fault : (e : InputError) → status_of_extracted (refused_input e) ≡ status.ReadFault → e ≡ unread.Fault
input-fault (unread.Refused k c) h = cc
input-fault unread.Fault h = refl
input-fault unread.NoMemory h = cc

pub trace-fault : (e : TraceFault) → status_of_extracted (refused_trace e) ≡ status.ReadFault → e ≡ untraced.Fault
trace-fault (untraced.Refused k c) h = cc
trace-fault untraced.Fault h = refl
trace-fault untraced.NoMemory h = cc

pub input-not_write : (e : InputError) → status_of_extracted (refused_input e) ≡ status.WriteFault → ⊥
input-not_write (unread.Refused k c) h = cc
input-not_write unread.Fault h = cc
input-not_write unread.NoMemory h = cc

pub trace-not_write : (e : TraceFault) → status_of_extracted (refused_trace e) ≡ status.WriteFault → ⊥
trace-not_write (untraced.Refused k c) h = cc
trace-not_write untraced.Fault h = cc
trace-not_write untraced.NoMemory h = cc

pub reading-status : (o : Extracted) → status_of_extracted o ≡ status.ReadFault → o ≡ outcome.ReadFault
reading-status (outcome.True g) e = cc
reading-status (outcome.False g) e = cc
reading-status outcome.Unknown e = cc
reading-status (outcome.RefusedTrace k c) e = cc
reading-status (outcome.RefusedInput k c) e = cc
reading-status outcome.ReadFault e = refl
reading-status outcome.WriteFault e = cc
reading-status outcome.NoMemory e = cc

pub writing-status : (o : Extracted) → status_of_extracted o ≡ status.WriteFault → o ≡ outcome.WriteFault
writing-status (outcome.True g) e = cc
writing-status (outcome.False g) e = cc
writing-status outcome.Unknown e = cc
writing-status (outcome.RefusedTrace k c) e = cc
writing-status (outcome.RefusedInput k c) e = cc
writing-status outcome.ReadFault e = cc
writing-status outcome.WriteFault e = refl
writing-status outcome.NoMemory e = cc
