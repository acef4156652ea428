use Rattle.std.proofs.Common.{◌≤◌, ◌+◌, drop}
use Rattle.std.specs.List.{AllByRecursion}
use Rattle.q_kernel.specs.Prelude.{slots}
use Rattle.q_logic.specs.Prelude.{size_of, clauses_at}
use Rattle.q_eliminate.specs.Gains.{joined}
use Rattle.q_eliminate.specs.Plans.{IsPlain}
use Rattle.q_eliminate.proofs.early.sum_with.Given as goal

abbrev pub invariant-loop-id : goal.invariant-loop-id
invariant-loop-id l = IsPlain l.marks → AllByRecursion IsPlain (clauses_at (slots l.kernel) l.ids)
    → l.sum + size_of (joined l.marks l.fn.out (clauses_at (slots l.kernel) (drop l.id-index l.ids))) ≤ l.fn.from + size_of (joined l.marks l.fn.out (clauses_at (slots l.kernel) l.ids))
