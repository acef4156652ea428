-- A line that is put into a sink, and the status that is given with it.
use Rattle.std.specs.Prelude.{◌≡◌, ◌⊎◌, ◌≤◌, ℕ, List, ◌++◌, take, Option, Some, IfSome}
use Rattle.q_logic.specs.Prelude.{Rose}
use Rattle.q_io.specs.declared.files.Sink as sinks
use Rattle.q_command.specs.declared.status.Status.{Status}
use Rattle.q_command.specs.declared.status.Status.TheVariants as status

-- a sink at a moment: what was put, where it tells, and how often putting has failed, and memory was wanting for it
pub record SinkView : Type 0 where
  pub written : Option (List ℕ)
  pub faults : ℕ
  pub wants : ℕ

-- the sink, by what its trait tells
abbrev pub view_sink : {S : Type 0} → sinks.Ghosts S → S → SinkView
view_sink told out = record { written = told.written out; faults = told.faults out; wants = told.wants out }

-- the sink's own call failed, or it found no memory: that count rose, and the status says so
abbrev pub SinkFails : Status → SinkView → SinkView → Type 0
SinkFails given before after =
    ((given ≡ status.WriteFault) × Rose before.faults after.faults)
    ⊎ ((given ≡ status.NoMemory) × Rose before.wants after.wants)

-- a front of the line, where the sink failed
pub record SaysPart (text line : List ℕ) (given : Status) (before after : SinkView) : Type 0 where
  pub part : ℕ
  pub put : after.written ≡ Some (text ++ take part line)
  pub failed : SinkFails given before after

-- the line stands behind the text that was there, with the status that is due
abbrev pub Says : List ℕ → List ℕ → Status → Status → SinkView → SinkView → Type 0
Says text line due given before after =
    ((given ≡ due) × (after.written ≡ Some (text ++ line))) ⊎ SaysPart text line given before after

-- the status is the one that is due, or the line could not be put
abbrev pub IsDue : Status → Status → SinkView → SinkView → Type 0
IsDue due given before after = (given ≡ due) ⊎ SinkFails given before after

-- the line is put, where the sink tells what was written, and the status that is due is given with it; no count falls
pub record IsSaid (line : List ℕ) (due given : Status) (before after : SinkView) : Type 0 where
  pub answer : IsDue due given before after
  pub says : IfSome before.written (λ text. Says text line due given before after)
  pub later : (before.faults ≤ after.faults) × (before.wants ≤ after.wants)
