-- A command, told once: what it reads and writes, what it may say, when each status comes, and which answer comes where no
-- fault does.
use Rattle.std.specs.Prelude.{◌≡◌, ◌≢◌, ◌⊎◌, ℕ, List, [], ◌∷◌, Option, IfSome}
use Rattle.q_logic.specs.Prelude.{Rose}
use Rattle.q_io.specs.Files.{Disk, RoseAmong}
use Rattle.q_command.specs.Devices.{Devices}
use Rattle.q_command.specs.FirstFaults.{Turn, FaultAt}
use Rattle.q_command.specs.Sinks.{SinkView, IsDue, Says}
use Rattle.q_command.specs.declared.status.Status.{Status}
use Rattle.q_command.specs.declared.status.Status.TheVariants as status

pub record Told : Type 1 where
  -- what there is to say at its end; the status of that, and its line
  pub Outcome : Type 0
  pub status_of : Outcome → Status
  pub line_of : Outcome → List ℕ
  -- what it means of the files before and after
  pub says : Outcome → Disk → Option Disk → Type 0
  -- when each status comes, and what the files hold then
  pub gives : Status → Disk → Option Disk → Type 0
  -- which statuses may come where no fault does, by what the files hold before
  pub answers : Disk → Status → Type 0
  -- the names of the files that it reads, and of those that it writes
  pub reads : List (List ℕ)
  pub writes : List (List ℕ)
  -- the same in the order in which the command comes to them, each with what is so of the files then
  pub reads_at : List Turn
  pub writes_at : List Turn

-- an outcome of which this holds is due; its line is put, where the sink tells, and its status is given
pub record Puts (t : Told) (P : t.Outcome → Type 0) (before : SinkView) (given : Status) (after : SinkView) : Type 0 where
  pub due : t.Outcome
  pub is : P due
  pub given_is : IsDue (t.status_of due) given before after
  pub says : IfSome before.written (λ text. Says text (t.line_of due) (t.status_of due) given before after)

-- of a command that writes no file
abbrev pub IfReading : List (List ℕ) → Type 0 → Type 0
IfReading [] P = P
IfReading (name ∷ names) P = Unit {0}

-- what a command does: the status that it gives and what the files hold then; a fault is given only where a count of faults
-- rose, of a file that it reads or writes or of the sink, and of a file only where those before it are as they have to be; files
-- that are only read stay, also where they don't tell what they hold; one line is put, and it says what is so
pub record Runs (t : Told) (before : Devices) (given : Status) (after : Devices) : Type 0 where
  pub gives : IfSome before.held (λ disk. t.gives given disk after.held)
  pub no_usage : given ≢ status.Usage
  pub read_fault : given ≡ status.ReadFault → RoseAmong (λ (d : Devices). d.read_faults) t.reads before after
  pub write_fault : given ≡ status.WriteFault →
      Rose before.sink.faults after.sink.faults ⊎ RoseAmong (λ (d : Devices). d.write_faults) t.writes before after
  pub read_fault_at : given ≡ status.ReadFault →
      FaultAt (λ (d : Devices). d.read_faults) t.reads_at before.held after.held before after
  pub write_fault_at : given ≡ status.WriteFault →
      Rose before.sink.faults after.sink.faults
      ⊎ FaultAt (λ (d : Devices). d.write_faults) t.writes_at before.held after.held before after
  pub unchanged : IfReading t.writes (after.held ≡ before.held)
  pub line : Puts t (λ due. IfSome before.held (λ disk. t.says due disk after.held)) before.sink given after.sink

-- no count of faults rose, of a file that the command reads or writes or of the sink
pub record IsFaultless (t : Told) (before after : Devices) : Type 0 where
  pub reads : ¬ RoseAmong (λ (d : Devices). d.read_faults) t.reads before after
  pub writes : ¬ RoseAmong (λ (d : Devices). d.write_faults) t.writes before after
  pub sink : ¬ Rose before.sink.faults after.sink.faults

-- this status, or memory is wanting
abbrev pub OrNoMemory : Status → Status → Type 0
OrNoMemory given s = (given ≡ s) ⊎ (given ≡ status.NoMemory)

-- the answer comes where no fault does
abbrev pub Completes : Told → Devices → Status → Devices → Type 0
Completes t before given after =
    IfSome before.held (λ disk. IsFaultless t before after → t.answers disk given)
