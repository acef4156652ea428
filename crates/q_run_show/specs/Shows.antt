-- What `annotate` of a refutation says and leaves, over the files before and after. Why nothing is written is said as a part of `disprove`
-- says it.
use Rattle.std.specs.Prelude.{◌≡◌, ◌⊎◌, ℕ, Bool, List, [], ◌∷◌, Option, Some}
use Rattle.q_io.specs.Files.{Disk, HoldsBytes, MayHoldFront, bytes_at}
use Rattle.q_shares.specs.Shares.{Share}
use Rattle.q_command.specs.Checks.{IsNoFormula, IsUnverified, Exactly, input_then}
use Rattle.q_command.specs.FirstFaults.{untold}
use Rattle.q_command.specs.Parts.{share_of}
use Rattle.q_command.specs.Told.{Told, OrNoMemory}
use Rattle.q_command.specs.declared.outcome.Outcome.{Outcome}
use Rattle.q_command.specs.declared.part.Part.{Part}
use Rattle.q_command.specs.declared.status.Status.{Status}
use Rattle.q_command.specs.declared.status.Status.TheVariants as status
use Rattle.q_run_annotate.specs.AnnotatedLines.{status_of_annotated, line_of_annotated}
use Rattle.q_run_annotate.specs.Annotates.{IsUntouched}
use Rattle.q_run_annotate.specs.declared.annotated.Annotated.{Annotated}
use Rattle.q_run_annotate.specs.declared.annotated.Annotated.TheVariants.{Written, Unverified, WriteFault, NoMemory}
use Rattle.q_run_disprove.specs.Disproofs.{DisproveFiles, OfFiles}
use Rattle.q_run_disprove.specs.SharedDisproofs.{IsShareDisproof, IsNoShareDisproof, PartSays}
use Rattle.q_run_show.specs.ShownShares.{IsShareShown}
use Rattle.q_run_show.specs.declared.names.ShowNames.{ShowNames}

-- the names of the three files
pub record ShowFiles : Type 0 where
  pub input : List ℕ
  pub proof : List ℕ
  pub hinted : List ℕ

abbrev pub files_of : ShowNames → ShowFiles
files_of n = record { input = n.input.now; proof = n.proof.now; hinted = n.hinted.now }

-- the names of the files that are read
abbrev pub names_read : ShowFiles → List (List ℕ)
names_read n = n.input ∷ n.proof ∷ []

-- the names of the files that are written
abbrev pub names_written : ShowFiles → List (List ℕ)
names_written n = n.hinted ∷ []

-- those that `disprove` would read
abbrev pub two_read : ShowFiles → DisproveFiles
two_read n = record { input = n.input; proof = n.proof }

-- IN holds a formula that PROOF refutes as far as the share tells, and this is the text of so many steps of the share
abbrev pub IsShown : Share → ℕ → List ℕ → ShowFiles → Bool → Disk → Type 0
IsShown j steps text n binary disk = OfFiles (two_read n) binary disk (IsShareShown j steps text)

-- HINTED is written whole
pub record HoldsShown (j : Share) (steps : ℕ) (n : ShowFiles) (binary : Bool) (before : Disk) (after : Option Disk) : Type 0 where
  pub text : List ℕ
  pub shown : IsShown j steps text n binary before
  pub holds : HoldsBytes n.hinted text before after

-- a fault or want of memory while it was written
pub record MayHoldShown (j : Share) (n : ShowFiles) (binary : Bool) (before : Disk) (after : Option Disk) : Type 0 where
  pub steps : ℕ
  pub text : List ℕ
  pub shown : IsShown j steps text n binary before
  pub front : MayHoldFront n.hinted text before after

-- why HINTED is not written
abbrev pub NotShown : Share → Outcome → ShowFiles → Bool → Disk → Type 0
NotShown j o n binary disk = IsUnverified o × PartSays j o (two_read n) binary disk

-- what there is to say, and what the files hold then
abbrev pub Shows : Share → Annotated → ShowFiles → Bool → Disk → Option Disk → Type 0
Shows j (Written k) n binary before after = HoldsShown j k n binary before after
Shows j (Unverified o) n binary before after = NotShown j o n binary before × (after ≡ Some before)
Shows j WriteFault n binary before after = MayHoldShown j n binary before after
Shows j NoMemory n binary before after = (after ≡ Some before) ⊎ MayHoldShown j n binary before after

-- when each status comes, and what the files hold then
pub record ShowsExactly (j : Share) (given : Status) (n : ShowFiles) (binary : Bool) (before : Disk) (after : Option Disk) : Type 0 where
  pub done : Exactly given status.Done (IsShareDisproof j (two_read n) binary before)
  pub written : given ≡ status.Done → (k : ℕ) × HoldsShown j k n binary before after
  pub log_refused : Exactly given status.LogRefused (IsNoShareDisproof j (two_read n) binary before)
  pub input_refused : Exactly given status.InputRefused (IsNoFormula (bytes_at before n.input))
  pub untouched : IsUntouched given → after ≡ Some before
  pub left : (given ≡ status.WriteFault) ⊎ (given ≡ status.NoMemory) → (after ≡ Some before) ⊎ MayHoldShown j n binary before after

-- the command, whole or in part; a proof that refutes gets hints, another one is refused
abbrev pub told : ShowFiles → Bool → Part → Told
told n binary p = record {
  Outcome = Annotated;
  status_of = status_of_annotated;
  line_of = line_of_annotated;
  says = λ o disk after. Shows (share_of p) o n binary disk after;
  gives = λ given disk after. ShowsExactly (share_of p) given n binary disk after;
  answers = λ disk given.
      (IsShareDisproof (share_of p) (two_read n) binary disk → OrNoMemory given status.Done)
      × (IsNoShareDisproof (share_of p) (two_read n) binary disk → OrNoMemory given status.LogRefused);
  reads = names_read n;
  writes = names_written n;
  reads_at = input_then n.input n.proof;
  writes_at = untold (names_written n);
}
