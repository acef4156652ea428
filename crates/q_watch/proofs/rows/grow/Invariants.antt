use Rattle.std.proofs.Common.{◌≡◌, map, suc, ◌-◌, vec_len, ℕ, [], get_or}
use Rattle.q_watch.proofs.rows.grow.Given as goal

abbrev pub invariant-loop-alloc : goal.invariant-loop-alloc
invariant-loop-alloc l = (j : ℕ) → get_or (map (λ v. v.items) l.rows.items) j [] ≡ get_or (map (λ v. v.items) l.fn.rows.items) j []

abbrev pub decreases-loop-alloc : goal.decreases-loop-alloc
decreases-loop-alloc l = suc l.at - vec_len l.rows
