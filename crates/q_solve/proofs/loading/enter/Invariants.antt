use Rattle.std.proofs.Common.{◌≡◌, ◌+◌, ℕ, true, eqb, drop}
use Rattle.q_logic.specs.Prelude.{Literal, is_bound}
use Rattle.q_solve.specs.Counting.{if_so, times, times_in}
use Rattle.q_solve.specs.Counted.{row_of}
use Rattle.q_solve.proofs.loading.enter.Given as goal

abbrev pub invariant-loop-lit : goal.invariant-loop-lit
invariant-loop-lit l =
    (k : Literal) → is_bound l.prefix k.var ≡ true → (i : ℕ) →
    times i (row_of l.prefix l.sides k) + if_so (eqb l.at i) (times_in k (drop l.lit-index l.clause)) ≡ times i (row_of l.prefix l.fn.sides k) + if_so (eqb l.at i) (times_in k l.clause)
