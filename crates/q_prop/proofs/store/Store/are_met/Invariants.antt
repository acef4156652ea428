use Rattle.std.proofs.Common.{◌≡◌, ◌<◌, ℕ, Some, Contains, slice_get}
use Rattle.q_logic.specs.Prelude.{Literal, Clause}
use Rattle.q_prop.specs.Slots.{Holds}
use Rattle.q_prop.specs.Supports.{IsUnitBeside}
use Rattle.q_prop.proofs.store.Store.are_met.Given as goal

abbrev pub invariant-loop-i : goal.invariant-loop-i
invariant-loop-i l = (j m : ℕ) (d : Clause) → j < l.i → slice_get l.slots j ≡ Some m → Holds l.self m d → (k : Literal) × Contains d k × IsUnitBeside l.self l.at k
