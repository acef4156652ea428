-- What an outcome says, from its parts.
use Rattle.std.proofs.Common.{◌≡◌, ◌≢◌, ◌&&◌, inl, inr, sym, subst, refl, ℕ, Bool, true, false, List, [], Option, Some, None, IfSome}
use Rattle.q_logic.specs.Prelude.{PrenexFormula, standard}
use Rattle.q_io.specs.Files.{Disk, bytes_at}
use Rattle.q_log.specs.Logs.{Parsed}
use Rattle.q_shares.specs.Shares.{Share, judged}
use Rattle.q_refutation.proofs.SharedRefuting.{whole-in, whole-refused}
use Rattle.q_command.specs.Checks.{IsFileOf}
use Rattle.q_command.specs.Logs.{steps_of}
use Rattle.q_command.specs.Parts.{IsWhole, share_of}
use Rattle.q_command.specs.Statuses.{status_of}
use Rattle.q_command.specs.declared.part.Part.{Part}
use Rattle.q_command.specs.Inputs.{IsRefused as IsInputRefused}
use Rattle.q_command.specs.declared.input.InputError.{InputError}
use Rattle.q_command.specs.declared.input.InputError.TheVariants as input
use Rattle.q_command.specs.declared.status.Status.TheVariants as status
use Rattle.q_run_disprove.specs.DisprovedLines.{status_of_disproved}
use Rattle.q_run_disprove.specs.Disproofs.{DisproveFiles, LineFails, Says, SaysOf, proof_of, refused_input}
use Rattle.q_run_disprove.specs.HintedDisproofs.{Disproves, HintedSays, SaysByHints, SaysOfFiles, Tells as TellsOf, TellsFiles, hinted_proof, is_hinted, offence_in}
use Rattle.q_run_disprove.specs.JudgedReadings.{IsStarted, SaysOfBytes, Tells}
use Rattle.q_run_disprove.specs.SharedDisproofs.{PartDisproves, PartSays, SaysShared, ShareLineFails, told_by_part}
use Rattle.q_run_disprove.specs.declared.disproved.Disproved.{Disproved}
use Rattle.q_run_disprove.specs.declared.disproved.Disproved.TheVariants as outcome
use Rattle.q_run_disprove.specs.Readings.{SaysWith}
use Rattle.q_run_disprove.specs.declared.form.Form.{Form}
use Rattle.q_run_disprove.specs.declared.reading.Reading.{Reading}
use Rattle.q_run_disprove.specs.declared.verdict.Verdict.{Verdict}

-- what is told of a proof behind nothing
pub told-whole : (w : Verdict) (form : Form) (part : Part) (F : PrenexFormula) (r : Reading) (file : List ℕ) → IsStarted form part F r → Tells w r file →
    SaysOfBytes form (share_of part) w F file
told-whole w form part F r file s h = h form (share_of part) F [] s.stands

-- what is told of the bytes, without the notes
pub says-bytes : (form : Form) (j : Share) (w : Verdict) (F : PrenexFormula) (bytes : List ℕ) → SaysOfBytes form j w F bytes →
    SaysByHints form.hints form.binary j w.outcome bytes F
says-bytes form j w F bytes h = go (form.hints && is_hinted form.binary bytes) h
  where
    go : (b : Bool) → judged b (HintedSays w.outcome F (hinted_proof form.binary bytes) (offence_in form.binary bytes)) (SaysWith form.keeps j w F (proof_of form.binary bytes)) →
        judged b (HintedSays w.outcome F (hinted_proof form.binary bytes) (offence_in form.binary bytes)) (SaysShared j w.outcome F (proof_of form.binary bytes))
    go true h = h
    go false h = h.says

-- so of the files
pub says-of : (hints binary : Bool) (j : Share) (o : Disproved) (n : DisproveFiles) (disk : Disk) (F : PrenexFormula) → IsFileOf (bytes_at disk n.input) F →
    SaysByHints hints binary j o (bytes_at disk n.proof) F → SaysOfFiles hints binary j o n disk
says-of hints binary j (outcome.False k) n disk F f h = record { formula = F; is_input = f; holds = h }
says-of hints binary j (outcome.RefusedLine k c) n disk F f h = record { formula = F; is_input = f; holds = h }
says-of hints binary j outcome.RefusedEnd n disk F f h = record { formula = F; is_input = f; holds = h }
says-of hints binary j (outcome.RefusedInput k c) n disk F f h = absurd (never hints h)
  where
    never : (b : Bool) → SaysByHints b binary j (outcome.RefusedInput k c) (bytes_at disk n.proof) F → ⊥
    never false x = x
    never true x = go (is_hinted binary (bytes_at disk n.proof)) x
      where
        go : (b : Bool) → judged b ⊥ ⊥ → ⊥
        go true x = x
        go false x = x
says-of hints binary j outcome.ReadFault n disk F f h = tt
says-of hints binary j outcome.NoMemory n disk F f h = tt

-- no outcome tells of writing
pub never-write : (o : Disproved) → status_of_disproved o ≢ status.WriteFault
never-write (outcome.False k) e = cc
never-write (outcome.RefusedLine k c) e = cc
never-write outcome.RefusedEnd e = cc
never-write (outcome.RefusedInput k c) e = cc
never-write outcome.ReadFault e = cc
never-write outcome.NoMemory e = cc

pub fault-is : (o : Disproved) → status_of_disproved o ≡ status.ReadFault → o ≡ outcome.ReadFault
fault-is (outcome.False k) e = cc
fault-is (outcome.RefusedLine k c) e = cc
fault-is outcome.RefusedEnd e = cc
fault-is (outcome.RefusedInput k c) e = cc
fault-is outcome.ReadFault e = refl
fault-is outcome.NoMemory e = cc

pub input-says : (hints binary : Bool) (j : Share) (e : InputError) (o : Disproved) (n : DisproveFiles) (disk : Disk) → o ≡ refused_input e →
    IsInputRefused e (bytes_at disk n.input) → SaysOfFiles hints binary j o n disk
input-says hints binary j e o n disk q h = subst (λ (x : Disproved). SaysOfFiles hints binary j x n disk) (sym q) (go e h)
  where
    go : (e : InputError) → IsInputRefused e (bytes_at disk n.input) → SaysOfFiles hints binary j (refused_input e) n disk
    go (input.Refused k c) h = h
    go input.Fault h = tt
    go input.NoMemory h = tt

pub input-fault : (e : InputError) → status_of_disproved (refused_input e) ≡ status.ReadFault → e ≡ input.Fault
input-fault (input.Refused k c) h = cc
input-fault input.Fault h = refl
input-fault input.NoMemory h = cc

-- a part looks at no hints, and no file changes
part-says : (j : Share) (o : Disproved) (n : DisproveFiles) (binary : Bool) (disk : Disk) → SaysOfFiles false binary j o n disk → PartSays j (told_by_part o) n binary disk
part-says j (outcome.False k) n binary disk h = record { formula = h.formula; is_input = h.is_input; holds = h.holds }
part-says j (outcome.RefusedLine k c) n binary disk h = record { formula = h.formula; is_input = h.is_input; holds = h.holds }
part-says j outcome.RefusedEnd n binary disk h = (refl, record { formula = h.formula; is_input = h.is_input; holds = h.holds })
part-says j (outcome.RefusedInput k c) n binary disk h = h
part-says j outcome.ReadFault n binary disk h = tt
part-says j outcome.NoMemory n binary disk h = tt

pub part-files : (j : Share) (o : Disproved) (n : DisproveFiles) (binary : Bool) (old new : Option Disk) → new ≡ old →
    IfSome old (λ disk. SaysOfFiles false binary j o n disk) → IfSome old (λ disk. PartDisproves j (told_by_part o) n binary disk new)
part-files j o n binary None new e h = tt
part-files j o n binary (Some disk) new e h = (part-says j o n binary disk h, e)

-- the part that is the whole proof
module _ (j : Share) (w : IsWhole j) where
  whole-of : (F : PrenexFormula) (p : Parsed) (k c : ℕ) → ShareLineFails j k c F p → LineFails k c F p
  whole-of F p k c (inl (at, r, l)) = inl (at, whole-refused j w standard 0 F (steps_of p.steps) at (Some c) r, l)
  whole-of F p k c (inr ((at, r), o)) = inr ((at, whole-refused j w standard 0 F (steps_of p.steps) at None r), o)

  whole-says : (o : Disproved) (F : PrenexFormula) (p : Parsed) → SaysShared j o F p → SaysOf o F p
  whole-says (outcome.False k) F p h = whole-in j w standard 0 F (steps_of p.steps) k h
  whole-says (outcome.RefusedLine k c) F p h = whole-of F p k c h
  whole-says outcome.RefusedEnd F p h = ((h.0.0, whole-refused j w standard 0 F (steps_of p.steps) h.0.0 None h.0.1), h.1)
  whole-says (outcome.RefusedInput k c) F p h = h
  whole-says outcome.ReadFault F p h = tt
  whole-says outcome.NoMemory F p h = tt

  -- of a proof that is judged as if it had no hints
  pub whole-of_files : (o : Disproved) (n : DisproveFiles) (binary : Bool) (disk : Disk) (F : PrenexFormula) → IsFileOf (bytes_at disk n.input) F →
      SaysShared j o F (proof_of binary (bytes_at disk n.proof)) → Says o n binary disk
  whole-of_files (outcome.False k) n binary disk F f h =
      record { formula = F; is_input = f; holds = whole-says (outcome.False k) F (proof_of binary (bytes_at disk n.proof)) h }
  whole-of_files (outcome.RefusedLine k c) n binary disk F f h =
      record { formula = F; is_input = f; holds = whole-says (outcome.RefusedLine k c) F (proof_of binary (bytes_at disk n.proof)) h }
  whole-of_files outcome.RefusedEnd n binary disk F f h =
      record { formula = F; is_input = f; holds = whole-says outcome.RefusedEnd F (proof_of binary (bytes_at disk n.proof)) h }
  whole-of_files (outcome.RefusedInput k c) n binary disk F f h = absurd h
  whole-of_files outcome.ReadFault n binary disk F f h = tt
  whole-of_files outcome.NoMemory n binary disk F f h = tt

  whole-tells : (o : Disproved) (binary : Bool) (bytes : List ℕ) (F : PrenexFormula) → SaysByHints true binary j o bytes F → TellsOf o binary bytes F
  whole-tells o binary bytes F h = go (is_hinted binary bytes) h
    where
      go : (b : Bool) → judged b (HintedSays o F (hinted_proof binary bytes) (offence_in binary bytes)) (SaysShared j o F (proof_of binary bytes)) →
          judged b (HintedSays o F (hinted_proof binary bytes) (offence_in binary bytes)) (SaysOf o F (proof_of binary bytes))
      go true h = h
      go false h = whole-says o F (proof_of binary bytes) h

  whole-file : (o : Disproved) (n : DisproveFiles) (binary : Bool) (disk : Disk) → SaysOfFiles true binary j o n disk → TellsFiles o n binary disk
  whole-file (outcome.False k) n binary disk h =
      record { formula = h.formula; is_input = h.is_input; holds = whole-tells (outcome.False k) binary (bytes_at disk n.proof) h.formula h.holds }
  whole-file (outcome.RefusedLine k c) n binary disk h =
      record { formula = h.formula; is_input = h.is_input; holds = whole-tells (outcome.RefusedLine k c) binary (bytes_at disk n.proof) h.formula h.holds }
  whole-file outcome.RefusedEnd n binary disk h =
      record { formula = h.formula; is_input = h.is_input; holds = whole-tells outcome.RefusedEnd binary (bytes_at disk n.proof) h.formula h.holds }
  whole-file (outcome.RefusedInput k c) n binary disk h = h
  whole-file outcome.ReadFault n binary disk h = tt
  whole-file outcome.NoMemory n binary disk h = tt

  pub whole-disproves : (o : Disproved) (n : DisproveFiles) (binary : Bool) (old new : Option Disk) → new ≡ old →
      IfSome old (λ disk. SaysOfFiles true binary j o n disk) → IfSome old (λ disk. Disproves o n binary disk new)
  whole-disproves o n binary None new e h = tt
  whole-disproves o n binary (Some disk) new e h = (whole-file o n binary disk h, e)

-- what a part says has the status of what it was told
pub same-fault : (o : Disproved) → status_of (told_by_part o) ≡ status.ReadFault → status_of_disproved o ≡ status.ReadFault
same-fault (outcome.False k) e = cc
same-fault (outcome.RefusedLine k c) e = cc
same-fault outcome.RefusedEnd e = cc
same-fault (outcome.RefusedInput k c) e = cc
same-fault outcome.ReadFault e = refl
same-fault outcome.NoMemory e = cc

pub part-never-write : (o : Disproved) → status_of (told_by_part o) ≢ status.WriteFault
part-never-write (outcome.False k) e = cc
part-never-write (outcome.RefusedLine k c) e = cc
part-never-write outcome.RefusedEnd e = cc
part-never-write (outcome.RefusedInput k c) e = cc
part-never-write outcome.ReadFault e = cc
part-never-write outcome.NoMemory e = cc
