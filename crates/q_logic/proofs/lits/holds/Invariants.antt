use Rattle.std.proofs.Common.{take}
use Rattle.q_logic.specs.Prelude.{IsIn}
use Rattle.q_logic.proofs.lits.holds.Given as goal

abbrev pub invariant-loop-k : goal.invariant-loop-k
invariant-loop-k l = IsIn l.lit (take l.k-index l.clause) → ⊥
