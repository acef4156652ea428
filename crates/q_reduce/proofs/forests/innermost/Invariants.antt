use Rattle.std.proofs.Common.{◌≡◌, true, Some}
use Rattle.q_logic.specs.declared.formulas.Bound.{Bound}
use Rattle.q_logic.specs.Prelude.{is_bound}
use Rattle.q_reduce.proofs.forests.innermost.Given as goal

abbrev pub invariant-loop : goal.invariant-loop
invariant-loop l = record {
  inner : is_bound l.kernel.prefix l.inner ≡ true;
  bound : (b : Bound) → l.at ≡ Some b → is_bound l.kernel.prefix b.var ≡ true;
}
