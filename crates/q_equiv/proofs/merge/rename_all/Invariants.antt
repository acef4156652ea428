use Rattle.std.proofs.Common.{◌≤◌, length, vec_capacity}
use Rattle.q_logic.specs.Prelude.{live}
use Rattle.q_kernel.specs.Prelude.{slots}
use Rattle.q_equiv.specs.Changing.{total_with, size}
use Rattle.q_equiv.proofs.RenamedClauses.{IsRenaming}
use Rattle.q_equiv.proofs.merge.rename_all.Given as goal

abbrev pub invariant-loop-id : goal.invariant-loop-id
invariant-loop-id l = record {
  renaming : IsRenaming l.keep l.gone l.bridge l.fn.kernel l.kernel;
  buffer : total_with length l.gone.var (live (slots l.kernel)) ≤ vec_capacity l.buffer;
}

abbrev pub decreases-loop-id : goal.decreases-loop-id
decreases-loop-id l = total_with size l.gone.var (live (slots l.kernel))
