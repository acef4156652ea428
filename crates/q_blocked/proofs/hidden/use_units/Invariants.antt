use Rattle.std.proofs.Common.{ℕ, take}
use Rattle.q_logic.specs.Prelude.{Clause, IsIn}
use Rattle.q_kernel.specs.Prelude.{slots}
use Rattle.q_blocked.specs.Walks.{IsBeside, GivesNoneAt}
use Rattle.q_blocked.specs.Growths.{Growing, IsPushed}
use Rattle.q_blocked.proofs.hidden.use_units.Given as goal

abbrev pub invariant-loop-d : goal.invariant-loop-d
invariant-loop-d l = record {
  growing : Growing l.kernel l.c l.growth;
  pushed : IsPushed l.fn.growth l.growth;
  gives_none : (d : ℕ) → IsIn d (take l.d-index l.units) → (D : Clause) → IsBeside (slots l.kernel) l.c d D → GivesNoneAt l.fn.growth.set l.growth.set D;
}
