use Rattle.std.proofs.Common.{◌≡◌, ◌++◌, drop}
use Rattle.q_logic.specs.Prelude.{without}
use Rattle.q_eliminate.proofs.counting.mark.Given as goal

abbrev pub invariant-loop-k : goal.invariant-loop-k
invariant-loop-k l = l.marks ++ without l.fn.out (drop l.k-index l.clause) ≡ without l.fn.out l.clause
