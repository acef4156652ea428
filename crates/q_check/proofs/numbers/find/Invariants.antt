use Rattle.std.proofs.Common.{◌<◌, ℕ}
use Rattle.q_check.specs.Numbers.{IsAt}
use Rattle.q_check.proofs.numbers.find.Given as goal

abbrev pub invariant-loop-number : goal.invariant-loop-number
invariant-loop-number l = (n : ℕ) → n < l.number → IsAt l.slots n l.slot → ⊥
