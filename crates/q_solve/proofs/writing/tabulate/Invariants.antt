use Rattle.std.proofs.Common.{drop}
use Rattle.q_solve.specs.Written.{IsEntering}
use Rattle.q_solve.proofs.writing.tabulate.Given as goal

abbrev pub invariant-loop-depth : goal.invariant-loop-depth
invariant-loop-depth l = IsEntering l.prefix l.row (drop l.at l.row) l.depth l.table.items

abbrev pub decreases-loop-depth : goal.decreases-loop-depth
decreases-loop-depth l = l.depth
