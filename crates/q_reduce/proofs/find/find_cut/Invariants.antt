use Rattle.std.proofs.Common.{take}
use Rattle.q_logic.specs.declared.rule_bounds.Bounds.{Bounds}
use Rattle.q_logic.specs.Prelude.{Literal, IsIn, cut, Fits}
use Rattle.q_kernel.specs.Prelude.{slots}
use Rattle.q_reduce.specs.Learned.{IsFitFor}
use Rattle.q_reduce.proofs.find.find_cut.Given as goal

abbrev pub invariant-loop-l : goal.invariant-loop-l
invariant-loop-l l = record {
  none : (k : Literal) → IsIn k (take l.l-index l.l-items) → (B : Bounds) → Fits B l.kernel.prefix (slots l.kernel) (cut l.c k) → ⊥;
  fit : IsFitFor l.kernel l.search;
}
