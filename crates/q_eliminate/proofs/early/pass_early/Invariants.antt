use Rattle.std.proofs.Common.{◌≤◌, ◌+◌, drop}
use Rattle.std.specs.List.{AllByRecursion}
use Rattle.q_kernel.specs.Prelude.{slots}
use Rattle.q_logic.specs.Prelude.{size_of, resolve_all, clauses_at}
use Rattle.q_eliminate.specs.Plans.{IsPlain}
use Rattle.q_eliminate.proofs.early.pass_early.Given as goal

abbrev pub invariant-loop-id : goal.invariant-loop-id
invariant-loop-id l = AllByRecursion IsPlain (clauses_at (slots l.kernel) l.ids) → AllByRecursion IsPlain (clauses_at (slots l.kernel) l.others)
    → l.sum + size_of (resolve_all l.fn.lit (clauses_at (slots l.kernel) (drop l.id-index l.ids)) (clauses_at (slots l.kernel) l.others)) ≤ size_of (resolve_all l.fn.lit (clauses_at (slots l.kernel) l.ids) (clauses_at (slots l.kernel) l.others))
