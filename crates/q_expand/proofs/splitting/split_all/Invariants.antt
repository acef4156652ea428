use Rattle.std.proofs.Common.{◌≡◌, ℕ, Some, take, drop, vec_capacity}
use Rattle.q_logic.specs.Prelude.{Clause, slot, clauses_at}
use Rattle.q_kernel.specs.Lists.{Has}
use Rattle.q_kernel.specs.Prelude.{slots}
use Rattle.q_expand.specs.Tracks.{HasTaken}
use Rattle.q_expand.specs.Steps.{all_split}
use Rattle.q_expand.proofs.splitting.split_all.Given as goal

abbrev pub invariant-loop-i : goal.invariant-loop-i
invariant-loop-i l = record {
  taken : HasTaken l.fn.kernel l.kernel (all_split l.u.var l.order l.first (clauses_at (slots l.fn.kernel) (take l.i l.dependents.met)));
  waiting : (c : ℕ) (C : Clause) → Has (drop l.i l.dependents.met) c → slot (slots l.fn.kernel) c ≡ Some C → slot (slots l.kernel) c ≡ Some C;
  room : vec_capacity l.spare ≡ vec_capacity l.fn.spare;
}
