use Rattle.std.proofs.Common.{◌≡◌, ℕ, true, Some}
use Rattle.q_logic.specs.Prelude.{is_bound}
use Rattle.q_kernel.proofs.joining.note_block.Given as goal

abbrev pub invariant-loop : goal.invariant-loop
invariant-loop l = record {
  same : l.kernel ≡ l.fn.kernel;
  bound : (w : ℕ) → l.at ≡ Some w → is_bound l.fn.kernel.prefix w ≡ true;
}
