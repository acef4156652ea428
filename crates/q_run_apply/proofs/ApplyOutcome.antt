-- What an outcome says, from its parts.
use Rattle.std.proofs.Common.{◌≡◌, ◌≢◌, inl, sym, subst, refl, ℕ, Option, Some, None, IfSome}
use Rattle.q_logic.specs.Prelude.{PrenexFormula}
use Rattle.q_io.specs.Files.{Disk, HoldsBytes, MayHoldFront, bytes_at}
use Rattle.q_dimacs.specs.Writing.{formula_text}
use Rattle.q_command.specs.Checks.{IsFileOf}
use Rattle.q_command.specs.Inputs.{IsRefused as IsInputRefused}
use Rattle.q_command.specs.declared.input.InputError.{InputError}
use Rattle.q_command.specs.declared.input.InputError.TheVariants as input
use Rattle.q_command.specs.declared.status.Status.TheVariants as status
use Rattle.q_run_apply.specs.AppliedLines.{status_of_applied}
use Rattle.q_run_apply.specs.Applications.{ApplyFiles, EndsAt, IsApplied, IsPart, Makes, Says}
use Rattle.q_run_apply.specs.Readings.{HasMade, IsMade, IsReached, IsRefusal, LogRefuses, Reaches, Refused, outcome_of, refused_input}
use Rattle.q_run_apply.specs.declared.applied.Applied.{Applied}
use Rattle.q_run_apply.specs.declared.applied.Applied.TheVariants as outcome
use Rattle.q_run_apply.specs.declared.applying.Reached.{Reached}
use Rattle.q_run_apply.specs.declared.reading.Made.{Made}

-- the formula of IN was read
pub made-of : (n : ApplyFiles) (disk : Disk) (F : PrenexFormula) (m : Made) → IsFileOf (bytes_at disk n.input) F → IsMade F (bytes_at disk n.log) m → HasMade n disk m
made-of n disk F m f h = record { formula = F; is_input = f; holds = h }

pub refused-of : (o : Applied) (n : ApplyFiles) (disk : Disk) (F : PrenexFormula) → IsFileOf (bytes_at disk n.input) F → LogRefuses o F (bytes_at disk n.log) → Refused o n disk
refused-of (outcome.Whole k) n disk F f h = h
refused-of (outcome.Broken k l) n disk F f h = h
refused-of (outcome.RefusedLine l c) n disk F f h = record { formula = F; is_input = f; holds = h }
refused-of (outcome.RefusedInput l c) n disk F f h = absurd h
refused-of outcome.ReadFault n disk F f h = tt
refused-of outcome.WriteFault n disk F f h = h
refused-of outcome.NoMemory n disk F f h = tt

pub input-refused : (e : InputError) (o : Applied) (n : ApplyFiles) (disk : Disk) → o ≡ refused_input e → IsInputRefused e (bytes_at disk n.input) → Refused o n disk
input-refused e o n disk q h = subst (λ (x : Applied). Refused x n disk) (sym q) (go e h)
  where
    go : (e : InputError) → IsInputRefused e (bytes_at disk n.input) → Refused (refused_input e) n disk
    go (input.Refused k c) h = h
    go input.Fault h = tt
    go input.NoMemory h = tt

pub input-fault : (e : InputError) → refused_input e ≡ outcome.ReadFault → e ≡ input.Fault
input-fault (input.Refused k c) h = cc
input-fault input.Fault h = refl
input-fault input.NoMemory h = cc

-- nothing is created where not all steps are made
pub refused-says : (o : Applied) (n : ApplyFiles) (old new : Option Disk) → new ≡ old → IfSome old (Refused o n) → IfSome old (λ disk. Says o n disk new)
refused-says o n None new e h = tt
refused-says (outcome.Whole k) n (Some disk) new e h = absurd h
refused-says (outcome.Broken k l) n (Some disk) new e h = absurd h
refused-says (outcome.RefusedLine l c) n (Some disk) new e h = (h, e)
refused-says (outcome.RefusedInput l c) n (Some disk) new e h = (h, e)
refused-says outcome.ReadFault n (Some disk) new e h = e
refused-says outcome.WriteFault n (Some disk) new e h = absurd h
refused-says outcome.NoMemory n (Some disk) new e h = inl e

-- the formula that is reached
pub reached-of : (n : ApplyFiles) (disk : Disk) (m : Made) (r : Reached) → Reaches m r → HasMade n disk m → IsReached n disk r
reached-of n disk m r e h = record {
  formula = h.formula;
  is_input = h.is_input;
  holds = record {
    makes = subst (λ (k : ℕ). Makes h.formula (bytes_at disk n.log) k r.formula) (sym e.steps)
        (subst (λ (G : PrenexFormula). Makes h.formula (bytes_at disk n.log) m.maker.steps G) (sym e.formula) h.holds.makes);
    ends = subst (λ (b : Option ℕ). EndsAt b (bytes_at disk n.log)) (sym e.broken) h.holds.ends;
  };
}

-- the formula is written, or a front of it
module _ (n : ApplyFiles) (before : Disk) (after : Option Disk) (r : Reached) (h : IsReached n before r) where
  applied : HoldsBytes n.output (formula_text r.formula) before after → IsApplied r.steps r.broken n before after
  applied b = record {
    formula = h.formula;
    is_input = h.is_input;
    holds = record { result = r.formula; makes = h.holds.makes; ends = h.holds.ends; written = b };
  }

  says-ending : (k : ℕ) (b : Option ℕ) → IsApplied k b n before after → Says (outcome_of k b) n before after
  says-ending k None a = a
  says-ending k (Some line) a = a

  pub says-written : (o : Applied) → o ≡ outcome_of r.steps r.broken → HoldsBytes n.output (formula_text r.formula) before after → Says o n before after
  says-written o q b = subst (λ (x : Applied). Says x n before after) (sym q) (says-ending r.steps r.broken (applied b))

  pub part-left : MayHoldFront n.output (formula_text r.formula) before after → IsPart n before after
  part-left b = record {
    formula = h.formula;
    is_input = h.is_input;
    holds = record { result = r.formula; steps = r.steps; makes = h.holds.makes; left = b };
  }

-- which faults an outcome tells
pub written-no-fault : (k : ℕ) (b : Option ℕ) (o : Applied) → o ≡ outcome_of k b → (status_of_applied o ≢ status.ReadFault) × (status_of_applied o ≢ status.WriteFault)
written-no-fault k b o q = subst (λ (x : Applied). (status_of_applied x ≢ status.ReadFault) × (status_of_applied x ≢ status.WriteFault)) (sym q) (go b)
  where
    go : (b : Option ℕ) → (status_of_applied (outcome_of k b) ≢ status.ReadFault) × (status_of_applied (outcome_of k b) ≢ status.WriteFault)
    go None = ((λ e. cc), (λ e. cc))
    go (Some line) = ((λ e. cc), (λ e. cc))

pub fault-is : (o : Applied) → status_of_applied o ≡ status.ReadFault → o ≡ outcome.ReadFault
fault-is (outcome.Whole k) e = cc
fault-is (outcome.Broken k l) e = cc
fault-is (outcome.RefusedLine k c) e = cc
fault-is (outcome.RefusedInput k c) e = cc
fault-is outcome.ReadFault e = refl
fault-is outcome.WriteFault e = cc
fault-is outcome.NoMemory e = cc

pub refusal-no-write : (o : Applied) → IsRefusal o → status_of_applied o ≢ status.WriteFault
refusal-no-write (outcome.Whole k) h e = cc
refusal-no-write (outcome.Broken k l) h e = cc
refusal-no-write (outcome.RefusedLine k c) h e = cc
refusal-no-write (outcome.RefusedInput k c) h e = cc
refusal-no-write outcome.ReadFault h e = cc
refusal-no-write outcome.WriteFault h e = h
refusal-no-write outcome.NoMemory h e = cc
