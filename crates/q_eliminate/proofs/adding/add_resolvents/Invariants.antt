use Rattle.std.proofs.Common.{◌≡◌, drop}
use Rattle.std.specs.Vec.{vec_capacity}
use Rattle.q_logic.specs.Prelude.{resolve_all, clauses_at}
use Rattle.q_kernel.specs.Prelude.{slots}
use Rattle.q_eliminate.proofs.AddedClauses.{IsGrowing}
use Rattle.q_eliminate.proofs.adding.add_resolvents.Given as goal

abbrev pub invariant-loop-c : goal.invariant-loop-c
invariant-loop-c l = record {
  growing : IsGrowing l.fn.kernel l.kernel (resolve_all l.fn.lit (clauses_at (slots l.fn.kernel) l.ids) (clauses_at (slots l.fn.kernel) l.others)) (resolve_all l.fn.lit (clauses_at (slots l.fn.kernel) (drop l.c-index l.ids)) (clauses_at (slots l.fn.kernel) l.others));
  buffer : vec_capacity l.buffer ≡ vec_capacity l.fn.buffer;
}
