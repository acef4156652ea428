-- A sorted clause is ordered.
use Rattle.std.proofs.Common.{◌≡◌}
use Rattle.q_logic.specs.Prelude.{Clause, clause_of}
use Rattle.q_logic.proofs.Common.{clause_of-ordered}
use Rattle.q_prop.specs.Slots.{IsOrdered}

pub sorted_is_ordered : (given sorted : Clause) → sorted ≡ clause_of given → IsOrdered sorted
sorted_is_ordered given sorted e = rw e (clause_of-ordered given)
