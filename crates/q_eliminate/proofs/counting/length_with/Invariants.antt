use Rattle.std.proofs.Common.{◌≡◌, ◌≤◌, ◌+◌, drop, length}
use Rattle.q_logic.specs.Prelude.{without, missing, negated_in}
use Rattle.q_eliminate.proofs.counting.length_with.Given as goal

abbrev pub invariant-loop-k : goal.invariant-loop-k
invariant-loop-k l = record {
  clash : negated_in (without l.fn.out (drop l.k-index l.clause)) l.marks ≡ negated_in (without l.fn.out l.clause) l.marks;
  len : l.len + length (missing (without l.fn.out (drop l.k-index l.clause)) l.marks) ≡ length l.marks + length (missing (without l.fn.out l.clause) l.marks);
  short : l.len ≤ length l.marks + l.k-index;
}
