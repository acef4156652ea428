use Rattle.std.proofs.Common.{◌≡◌, ◌∷◌, take, vec_capacity}
use Rattle.q_logic.specs.Prelude.{without}
use Rattle.q_expand.proofs.ClauseParts.{imaged}
use Rattle.q_expand.proofs.splitting.put_over.Given as goal

abbrev pub invariant-loop-k : goal.invariant-loop-k
invariant-loop-k l = record {
  items : l.spare.items ≡ l.gone ∷ imaged l.order l.first (without l.gone (take l.k-index l.clause));
  room : vec_capacity l.spare ≡ vec_capacity l.fn.spare;
}
