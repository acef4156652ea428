use Rattle.std.proofs.Common.{◌+◌}
use Rattle.q_logic.specs.Prelude.{PrenexFormula, measure_of}
use Rattle.q_io.specs.Files.{Disk, Later}
use Rattle.q_kernel.specs.Prelude.{formula_in, IsReady}
use Rattle.q_reduce.specs.Learned.{IsFitFor}
use Rattle.q_sched.specs.Drives.{left_of, SameFrame}
use Rattle.q_sched.specs.Seen.{seen, learned}
use Rattle.q_sched.specs.AlarmViews.{view_alarm}
use Rattle.q_simplify.specs.Logs.{HasLog}
use Rattle.q_simplify.specs.Moves.{MovesTo}
use Rattle.q_sched.specs.Alarms.{IsQuiet}
use Rattle.q_simplify.proofs.driving.take_turns.Given as goal

abbrev pub invariant-loop-files : goal.invariant-loop-files
invariant-loop-files g l =
    record {
      frame : SameFrame (seen (λ b. (goal.Guide-dyn g (b.vtable, b.value)).asked b.value) (λ b. (goal.Guide-dyn g (b.vtable, b.value)).last b.value) (λ b. (goal.Guide-dyn g (b.vtable, b.value)).heard b.value) l.fn.drive) (seen (λ b. (goal.Guide-dyn g (b.vtable, b.value)).asked b.value) (λ b. (goal.Guide-dyn g (b.vtable, b.value)).last b.value) (λ b. (goal.Guide-dyn g (b.vtable, b.value)).heard b.value) l.drive);
      ready : IsReady l.kernel;
      fit : IsFitFor l.kernel (learned l.drive);
      moves : MovesTo (seen (λ b. (goal.Guide-dyn g (b.vtable, b.value)).asked b.value) (λ b. (goal.Guide-dyn g (b.vtable, b.value)).last b.value) (λ b. (goal.Guide-dyn g (b.vtable, b.value)).heard b.value) l.fn.drive).bounds (seen (λ b. (goal.Guide-dyn g (b.vtable, b.value)).asked b.value) (λ b. (goal.Guide-dyn g (b.vtable, b.value)).last b.value) (λ b. (goal.Guide-dyn g (b.vtable, b.value)).heard b.value) l.fn.drive).budget (seen (λ b. (goal.Guide-dyn g (b.vtable, b.value)).asked b.value) (λ b. (goal.Guide-dyn g (b.vtable, b.value)).last b.value) (λ b. (goal.Guide-dyn g (b.vtable, b.value)).heard b.value) l.fn.drive).first_measure (formula_in l.fn.kernel) (formula_in l.kernel);
      log : (G : PrenexFormula) → (before : Disk) → HasLog G l.log before l.fn.kernel (g.F.Files.held l.fn.files) → HasLog G l.log before l.kernel (g.F.Files.held l.files);
      quiet : IsQuiet (view_alarm g.A.Alarm l.fn.alarm) (view_alarm g.A.Alarm l.alarm);
      later : Later g.F.Files.read_faults g.F.Files.write_faults l.fn.files l.files;
    }

abbrev pub decreases-loop-files : goal.decreases-loop-files
decreases-loop-files g l =
    measure_of (seen (λ b. (goal.Guide-dyn g (b.vtable, b.value)).asked b.value) (λ b. (goal.Guide-dyn g (b.vtable, b.value)).last b.value) (λ b. (goal.Guide-dyn g (b.vtable, b.value)).heard b.value) l.fn.drive).bounds (formula_in l.kernel) + left_of (seen (λ b. (goal.Guide-dyn g (b.vtable, b.value)).asked b.value) (λ b. (goal.Guide-dyn g (b.vtable, b.value)).last b.value) (λ b. (goal.Guide-dyn g (b.vtable, b.value)).heard b.value) l.drive)
