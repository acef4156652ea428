-- The devices that a command works with, seen at a moment.
use Rattle.std.specs.Prelude.{◌≤◌, ℕ, List, Option}
use Rattle.q_io.specs.Files.{Disk}
use Rattle.q_io.specs.declared.files.Files as files
use Rattle.q_io.specs.declared.files.Sink as sinks
use Rattle.q_command.specs.Sinks.{SinkView, view_sink}

-- what the files hold, where they tell it, their counts of faults, and the sink
pub record Devices : Type 0 where
  pub held : Option Disk
  pub read_faults : List ℕ → ℕ
  pub write_faults : List ℕ → ℕ
  pub sink : SinkView

-- the files and the sink, by what their traits tell
abbrev pub devices : {F S : Type 0} → files.Ghosts F → sinks.Ghosts S → F → S → Devices
devices store sink at out =
    record { held = store.held at; read_faults = store.read_faults at; write_faults = store.write_faults at; sink = view_sink sink out }

-- no count of faults fell, of any file or of the sink
pub record AreLater (before after : Devices) : Type 0 where
  pub read : (q : List ℕ) → before.read_faults q ≤ after.read_faults q
  pub write : (q : List ℕ) → before.write_faults q ≤ after.write_faults q
  pub sink : before.sink.faults ≤ after.sink.faults
