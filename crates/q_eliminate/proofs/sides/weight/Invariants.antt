use Rattle.std.proofs.Common.{◌≡◌, ◌+◌, drop}
use Rattle.q_logic.specs.Prelude.{size_of, clauses_at}
use Rattle.q_kernel.specs.Prelude.{slots}
use Rattle.q_eliminate.proofs.sides.weight.Given as goal

abbrev pub invariant-loop-id : goal.invariant-loop-id
invariant-loop-id l = l.sum + size_of (clauses_at (slots l.kernel) (drop l.id-index l.ids)) ≡ size_of (clauses_at (slots l.kernel) l.ids)
