use Rattle.q_run_solve.proofs.SolveParts.{reduced-to}
use Rattle.q_run_solve.proofs.reducing.reduce.Goals as goal

pub returns : goal.returns
returns g c =
    reduced-to c.args.formula c.in_ok-memory.memory c.check_in_memory.new.memory _ c.in_ok-checked.checked c.in_ok-checked.ensures.same c.in_ok-memory.ensures c.in_ok-checked.ensures.passes c.in_ok-checked.ensures.back (c.written_within_limits_is_read.ensures c.args.formula c.requires.proper c.requires.limits)
