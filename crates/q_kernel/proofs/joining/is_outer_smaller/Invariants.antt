use Rattle.std.proofs.Common.{◌≡◌, true}
use Rattle.q_logic.specs.Prelude.{is_bound}
use Rattle.q_kernel.proofs.joining.is_outer_smaller.Given as goal

abbrev pub invariant-loop : goal.invariant-loop
invariant-loop l = record {
  outer : is_bound l.prefix.bounds l.outer ≡ true;
  inner : is_bound l.prefix.bounds l.inner ≡ true;
}
