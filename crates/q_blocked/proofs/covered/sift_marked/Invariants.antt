use Rattle.std.proofs.Common.{take}
use Rattle.q_logic.specs.Prelude.{IsIn}
use Rattle.q_blocked.proofs.FilteredLiterals.{IsSifted}
use Rattle.q_blocked.proofs.covered.sift_marked.Given as goal

abbrev pub invariant-loop-k : goal.invariant-loop-k
invariant-loop-k l = IsSifted (λ k. IsIn k l.marks) (take l.k-index l.old) l.kept.items
