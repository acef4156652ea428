-- Faults that rose.
use Rattle.std.proofs.Common.{◌≡◌, inl, inr, refl, sym, ◌∙◌, ℕ, List, [], ◌∷◌, Option, Err, IfSome}
use Rattle.std.specs.Prelude.{IsErrOf}
use Rattle.q_io.specs.Files.{Disk, Later, RoseFor, RoseAmong}
use Rattle.q_io.specs.declared.error.DeviceError.{DeviceError}
use Rattle.q_io.specs.declared.error.DeviceError.TheVariants as device
use Rattle.q_io.proofs.FaultCounts.{rose_later}
use Rattle.q_command.specs.FirstFaults.{FaultAt}
use Rattle.q_command.specs.declared.status.Status.TheVariants as status
use Rattle.q_run_solve.specs.declared.solved.Solved.{Solved}
use Rattle.q_run_solve.specs.declared.solved.Solved.TheVariants as solved
use Rattle.q_run_solve.specs.SolvedLines.{status_of_solved}
use Rattle.q_run_solve.specs.Reduces.{HoldsLog, turns_of_both}
use Rattle.q_run_solve.specs.Solves.{SolveFiles, IsLogged, failed_write, refusal_of, turns_written}
use Rattle.q_command.specs.declared.input.InputError.{InputError}
use Rattle.q_command.specs.declared.input.InputError.TheVariants as reading

pub write-is : (o : Solved) → status_of_solved o ≡ status.WriteFault → o ≡ solved.WriteFault
write-is (solved.True g) e = absurd (cc)
write-is solved.False e = absurd (cc)
write-is solved.Unknown e = absurd (cc)
write-is (solved.RefusedInput k c) e = absurd (cc)
write-is solved.ReadFault e = absurd (cc)
write-is solved.WriteFault e = refl
write-is solved.NoMemory e = absurd (cc)

pub read-is : (o : Solved) → status_of_solved o ≡ status.ReadFault → o ≡ solved.ReadFault
read-is (solved.True g) e = absurd (cc)
read-is solved.False e = absurd (cc)
read-is solved.Unknown e = absurd (cc)
read-is (solved.RefusedInput k c) e = absurd (cc)
read-is solved.ReadFault e = refl
read-is solved.WriteFault e = absurd (cc)
read-is solved.NoMemory e = absurd (cc)

-- CERT could not be written
pub cert-rose : {X : Type 0} (read write : X → List ℕ → ℕ) (on ln cn : List ℕ) (before mid after : X) (o : Solved) → Later read write before mid → (o ≡ solved.WriteFault → RoseFor write cn mid after) → status_of_solved o ≡ status.WriteFault → RoseAmong write (on ∷ ln ∷ cn ∷ []) before after
cert-rose read write on ln cn before mid after o l h e = inr (inr (rose_later (write before cn) (write mid cn) (write after cn) (l.write cn) (h (write-is o e))))

-- files that were only read before
pub three-later : {X : Type 0} (read write : X → List ℕ → ℕ) (on ln cn : List ℕ) (before mid after : X) → Later read write before mid → RoseAmong write (on ∷ ln ∷ cn ∷ []) mid after → RoseAmong write (on ∷ ln ∷ cn ∷ []) before after
three-later read write on ln cn before mid after l (inl a) = inl (rose_later (write before on) (write mid on) (write after on) (l.write on) a)
three-later read write on ln cn before mid after l (inr (inl a)) = inr (inl (rose_later (write before ln) (write mid ln) (write after ln) (l.write ln) a))
three-later read write on ln cn before mid after l (inr (inr a)) = inr (inr (rose_later (write before cn) (write mid cn) (write after cn) (l.write cn) a))

-- a refusal is no fault of writing, and a fault of reading only where there was one
pub refusal-writes : (o : Solved) (x : InputError) → o ≡ refusal_of x → status_of_solved o ≡ status.WriteFault → ⊥
refusal-writes o (reading.Refused k c) e s = let z : solved.RefusedInput k c ≡ solved.WriteFault = sym e ∙ write-is o s in cc
refusal-writes o reading.Fault e s = let z : solved.ReadFault ≡ solved.WriteFault = sym e ∙ write-is o s in cc
refusal-writes o reading.NoMemory e s = let z : solved.NoMemory ≡ solved.WriteFault = sym e ∙ write-is o s in cc

pub refusal-reads : {T : Type 0} {A : Type 0} (o : Solved) (x : InputError) → o ≡ refusal_of x → (IsErrOf {T = T} {E = InputError} (Err x) reading.Fault → A) → status_of_solved o ≡ status.ReadFault → A
refusal-reads o (reading.Refused k c) e h s = absurd (let z : solved.RefusedInput k c ≡ solved.ReadFault = sym e ∙ read-is o s in cc)
refusal-reads o reading.Fault e h s = h refl
refusal-reads o reading.NoMemory e h s = absurd (let z : solved.NoMemory ≡ solved.ReadFault = sym e ∙ read-is o s in cc)

-- a file that could not be written failed
pub failed-is : (o : Solved) (x : DeviceError) → o ≡ failed_write x → status_of_solved o ≡ status.WriteFault → IsErrOf {T = Unit {0}} {E = DeviceError} (Err x) device.Failed
failed-is o device.Failed e s = refl
failed-is o device.NoMemory e s = absurd (let z : solved.NoMemory ≡ solved.WriteFault = sym e ∙ write-is o s in cc)

-- LOG or OUT could not be written
pub both-at : {X : Type 0} (write : X → List ℕ → ℕ) (n : SolveFiles) (log_text : List ℕ) (held end : Option Disk) (before after : X) → (IfSome held (λ disk. HoldsLog n.log log_text end) → IfSome held (λ disk. IsLogged n disk end)) →
    FaultAt write (turns_of_both n.output n.log log_text) held end before after → FaultAt write (turns_written n) held end before after
both-at write n log_text held end before after k (inl r) = inl r
both-at write n log_text held end before after k (inr (inl (h, r))) = inr (inl (k h, r))
both-at write n log_text held end before after k (inr (inr z)) = absurd z

pub both-rose : {X : Type 0} (write : X → List ℕ → ℕ) (on ln cn : List ℕ) (before after : X) (o : Solved) (x : DeviceError) → o ≡ failed_write x → (IsErrOf {T = Unit {0}} {E = DeviceError} (Err x) device.Failed → RoseAmong write (on ∷ ln ∷ []) before after) → status_of_solved o ≡ status.WriteFault → RoseAmong write (on ∷ ln ∷ cn ∷ []) before after
both-rose write on ln cn before after o x e h s = go (h (failed-is o x e s))
  where
    go : RoseAmong write (on ∷ ln ∷ []) before after → RoseAmong write (on ∷ ln ∷ cn ∷ []) before after
    go (inl a) = inl a
    go (inr b) = inr (inl b)

pub unwritten-reads : (o : Solved) (x : DeviceError) → o ≡ failed_write x → status_of_solved o ≡ status.ReadFault → ⊥
unwritten-reads o device.Failed e s = let z : solved.WriteFault ≡ solved.ReadFault = sym e ∙ read-is o s in cc
unwritten-reads o device.NoMemory e s = let z : solved.NoMemory ≡ solved.ReadFault = sym e ∙ read-is o s in cc
