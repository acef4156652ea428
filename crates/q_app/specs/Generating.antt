-- What `gen` says and leaves.
use Rattle.std.specs.Prelude.{◌≡◌, ◌⊎◌, ℕ, List, [], ◌∷◌, ◌++◌, codes, decimal, Option}
use Rattle.q_io.specs.Files.{Disk}
use Rattle.q_gen.specs.Outputs.{HoldsGenerated, HoldsGeneratedPart}
use Rattle.q_command.specs.FirstFaults.{untold}
use Rattle.q_command.specs.Told.{Told, OrNoMemory}
use Rattle.q_app.specs.declared.words.Scale.{Scale}
use Rattle.q_app.specs.declared.generated.Generated.{Generated}
use Rattle.q_app.specs.declared.generated.Generated.TheVariants.{Written, WriteFault, NoMemory}
use Rattle.q_command.specs.declared.status.Status.{Status}
use Rattle.q_command.specs.declared.status.Status.TheVariants as status

abbrev pub status_of_generated : Generated → Status
status_of_generated (Written n) = status.Done
status_of_generated WriteFault = status.WriteFault
status_of_generated NoMemory = status.NoMemory

abbrev pub line_of_generated : Generated → List ℕ
line_of_generated (Written n) = codes "generated " ++ decimal n ++ codes "\n"
line_of_generated WriteFault = codes "write fault\n"
line_of_generated NoMemory = codes "no memory\n"

-- what there is to say, and what the file holds then
abbrev pub Generates : Generated → Scale → List ℕ → Disk → Option Disk → Type 0
Generates (Written n) k name before after = (n ≡ k.size) × HoldsGenerated name k.seed k.size before after
Generates WriteFault k name before after = HoldsGeneratedPart name k.seed k.size before after
Generates NoMemory k name before after = HoldsGeneratedPart name k.seed k.size before after

-- when each status of `gen` comes, and what the file holds then
pub record GeneratesExactly (given : Status) (k : Scale) (name : List ℕ) (before : Disk) (after : Option Disk) : Type 0 where
  pub done : given ≡ status.Done → HoldsGenerated name k.seed k.size before after
  pub left : (given ≡ status.WriteFault) ⊎ (given ≡ status.NoMemory) → HoldsGeneratedPart name k.seed k.size before after
  pub any : (given ≡ status.Done) ⊎ (given ≡ status.WriteFault) ⊎ (given ≡ status.NoMemory)

abbrev pub told : Scale → List ℕ → Told
told k name = record {
  Outcome = Generated;
  status_of = status_of_generated;
  line_of = line_of_generated;
  says = λ o disk after. Generates o k name disk after;
  gives = λ given disk after. GeneratesExactly given k name disk after;
  answers = λ disk given. OrNoMemory given status.Done;
  reads = [];
  writes = name ∷ [];
  reads_at = [];
  writes_at = untold (name ∷ []);
}
