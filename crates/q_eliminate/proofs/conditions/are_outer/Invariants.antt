use Rattle.std.proofs.Common.{drop}
use Rattle.std.specs.List.{AllByRecursion}
use Rattle.q_kernel.specs.Prelude.{slots}
use Rattle.q_eliminate.specs.Plans.{IsOuter}
use Rattle.q_logic.specs.Prelude.{clauses_at}
use Rattle.q_eliminate.proofs.conditions.are_outer.Given as goal

abbrev pub invariant-loop-id : goal.invariant-loop-id
invariant-loop-id l = AllByRecursion (IsOuter l.kernel.prefix l.x) (clauses_at (slots l.kernel) (drop l.id-index l.ids)) → AllByRecursion (IsOuter l.kernel.prefix l.x) (clauses_at (slots l.kernel) l.ids)
