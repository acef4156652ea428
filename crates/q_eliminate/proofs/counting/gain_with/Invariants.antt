use Rattle.std.proofs.Common.{drop}
use Rattle.q_kernel.specs.Prelude.{slots}
use Rattle.q_logic.specs.Prelude.{clauses_at}
use Rattle.q_eliminate.specs.Gains.{joined}
use Rattle.q_eliminate.proofs.GainCounts.{IsGaining}
use Rattle.q_eliminate.proofs.counting.gain_with.Given as goal

abbrev pub invariant-loop-id : goal.invariant-loop-id
invariant-loop-id l = IsGaining l.fn.from l.gain l.fn.bound (joined l.marks l.fn.out (clauses_at (slots l.kernel) l.ids)) (joined l.marks l.fn.out (clauses_at (slots l.kernel) (drop l.id-index l.ids)))
