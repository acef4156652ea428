use Rattle.std.proofs.Common.{List, ℕ}
use Rattle.q_io.specs.Files.{Disk, Later}
use Rattle.q_output.specs.Outputs.{HoldsSome}
use Rattle.q_output.proofs.Putting.{HaveCome}
use Rattle.q_output.proofs.output.put_clauses.Given as goal

abbrev pub invariant-loop-at : goal.invariant-loop-at
invariant-loop-at g l =
    record {
      come : (front : List ℕ) → (before : Disk) → HoldsSome l.name front l.fn.text.items before (g.F.Files.held l.fn.files) → HaveCome l.name front l.text.items l.formula.matrix l.at before (g.F.Files.held l.files);
      later : Later g.F.Files.read_faults g.F.Files.write_faults l.fn.files l.files;
    }
