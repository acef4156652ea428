-- What an outcome says, from its parts.
use Rattle.std.proofs.Common.{◌≡◌, refl, sym, subst, ℕ, Bool, List, Option}
use Rattle.q_logic.specs.Prelude.{PrenexFormula}
use Rattle.q_io.specs.Files.{Disk, HoldsBytes, MayHoldFront, bytes_at}
use Rattle.q_shares.specs.Shares.{Share}
use Rattle.q_command.specs.Checks.{IsFileOf, input_refused}
use Rattle.q_command.specs.Inputs.{IsRefused as IsInputRefused}
use Rattle.q_command.specs.declared.input.InputError.{InputError}
use Rattle.q_command.specs.declared.input.InputError.TheVariants as input
use Rattle.q_command.specs.declared.outcome.Outcome.{Outcome}
use Rattle.q_command.specs.declared.outcome.Outcome.TheVariants as outcome
use Rattle.q_command.specs.declared.outcome.Role.TheVariants.{In}
use Rattle.q_run_disprove.specs.Disproofs.{proof_of}
use Rattle.q_run_show.specs.ShownShares.{IsShareShown}
use Rattle.q_run_show.specs.Shows.{HoldsShown, IsShown, MayHoldShown, NotShown, ShowFiles}

-- the formula of IN, and the text of what is read of PROOF
pub is-shown : (j : Share) (n : ShowFiles) (binary : Bool) (disk : Disk) (F : PrenexFormula) (steps : ℕ) (text : List ℕ) → IsFileOf (bytes_at disk n.input) F →
    IsShareShown j steps text F (proof_of binary (bytes_at disk n.proof)) → IsShown j steps text n binary disk
is-shown j n binary disk F steps text f h = record { formula = F; is_input = f; holds = h }

-- IN gives no formula
pub no-input : (j : Share) (e : InputError) (o : Outcome) (n : ShowFiles) (binary : Bool) (disk : Disk) → o ≡ input_refused In e → IsInputRefused e (bytes_at disk n.input) → NotShown j o n binary disk
no-input j e o n binary disk q h = subst (λ (x : Outcome). NotShown j x n binary disk) (sym q) (go e h)
  where
    go : (e : InputError) → IsInputRefused e (bytes_at disk n.input) → NotShown j (input_refused In e) n binary disk
    go (input.Refused k c) h = (tt, h)
    go input.Fault h = (tt, tt)
    go input.NoMemory h = (tt, tt)

pub input-fault : (e : InputError) → input_refused In e ≡ outcome.ReadFault → e ≡ input.Fault
input-fault (input.Refused k c) h = cc
input-fault input.Fault h = refl
input-fault input.NoMemory h = cc

module _ (j : Share) (n : ShowFiles) (binary : Bool) (before : Disk) (after : Option Disk) (steps : ℕ) (text : List ℕ) (h : IsShown j steps text n binary before) where
  pub whole : HoldsBytes n.hinted text before after → HoldsShown j steps n binary before after
  whole b = record { text = text; shown = h; holds = b }

  pub part : MayHoldFront n.hinted text before after → MayHoldShown j n binary before after
  part b = record { steps = steps; text = text; shown = h; front = b }
