use Rattle.std.proofs.Common.{◌≡◌, ℕ, map, vec_len}
use Rattle.q_solve.specs.Counting.{row_at}
use Rattle.q_solve.proofs.holders.grow.Given as goal

abbrev pub invariant-loop : goal.invariant-loop
invariant-loop l = (vec_len l.rows ≡ l.counter) × ((n : ℕ) → row_at (map (λ v. v.items) l.rows.items) n ≡ row_at (map (λ v. v.items) l.fn.rows.items) n)
