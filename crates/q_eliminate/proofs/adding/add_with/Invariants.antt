use Rattle.std.proofs.Common.{◌≡◌, drop}
use Rattle.std.specs.Vec.{vec_capacity}
use Rattle.q_logic.specs.Prelude.{resolve_one, clauses_at}
use Rattle.q_kernel.specs.Prelude.{slots}
use Rattle.q_eliminate.specs.Sides.{clause_in}
use Rattle.q_eliminate.proofs.AddedClauses.{IsGrowing}
use Rattle.q_eliminate.proofs.adding.add_with.Given as goal

abbrev pub invariant-loop-d : goal.invariant-loop-d
invariant-loop-d l = record {
  growing : IsGrowing l.fn.kernel l.kernel (resolve_one l.fn.lit (clause_in (slots l.fn.kernel) l.fn.c) (clauses_at (slots l.fn.kernel) l.others)) (resolve_one l.fn.lit (clause_in (slots l.fn.kernel) l.fn.c) (clauses_at (slots l.fn.kernel) (drop l.d-index l.others)));
  buffer : vec_capacity l.buffer ≡ vec_capacity l.fn.buffer;
}
