use Rattle.std.proofs.Common.{◌≡◌, ◌≤◌, length, drop, []}
use Rattle.q_logic.specs.Prelude.{literals_in}
use Rattle.q_kernel.specs.Kernels.{slots}
use Rattle.q_kernel.proofs.FirstIds.{AreFirst}
use Rattle.q_kernel.proofs.kernel.Kernel.start.Given as goal

abbrev pub invariant-loop-at : goal.invariant-loop-at
invariant-loop-at l = record {
  first : AreFirst (slots l.kernel) l.formula.matrix l.at;
  prefix : l.kernel.prefix ≡ l.formula.prefix;
  text : l.kernel.text ≡ [];
  ids : length l.formula.matrix ≤ length (slots l.kernel);
  words : literals_in (drop l.at l.formula.matrix) ≤ l.kernel.arena.spare_words;
}
