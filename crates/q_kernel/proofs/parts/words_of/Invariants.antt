use Rattle.std.proofs.Common.{◌≡◌, ◌+◌, drop}
use Rattle.q_logic.specs.Prelude.{literals_in}
use Rattle.q_kernel.proofs.parts.words_of.Given as goal

abbrev pub invariant-loop-at : goal.invariant-loop-at
invariant-loop-at l = l.words + literals_in (drop l.at l.formula.matrix) ≡ literals_in l.formula.matrix
