use Rattle.std.proofs.Common.{◌≡◌, ℕ, true, Some}
use Rattle.q_logic.specs.declared.formulas.Bound.{Bound}
use Rattle.q_logic.specs.Prelude.{is_bound, outer_or_same}
use Rattle.q_sparse.specs.Rows.{item_at}
use Rattle.q_reduce.proofs.regions.start.Given as goal

abbrev pub invariant-loop : goal.invariant-loop
invariant-loop l = record {
  labels : l.labels.none ≡ l.fn.labels.none;
  covered : l.covered.none ≡ l.fn.covered.none;
  bound : (b : Bound) → l.at ≡ Some b → is_bound l.kernel.prefix b.var ≡ true;
  behind : (u : ℕ) → item_at l.covered u ≡ true → outer_or_same l.kernel.prefix l.w u ≡ true;
}
