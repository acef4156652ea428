use Rattle.std.proofs.Common.{◌≡◌, ℕ, Contains, Some}
use Rattle.q_logic.specs.Prelude.{Literal, Clause, IsIn, slot}
use Rattle.q_kernel.specs.Prelude.{slots}
use Rattle.q_watch.specs.Watches.{IsPaired}
use Rattle.q_watch.proofs.watches.Watches.build.Given as goal

abbrev pub invariant-loop-id : goal.invariant-loop-id
invariant-loop-id l = (d : ℕ) (D : Clause) (j : Literal) → Contains l.yielded d → slot (slots l.kernel) d ≡ Some D → IsIn j D → IsPaired l.self d D
