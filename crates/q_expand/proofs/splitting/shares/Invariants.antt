use Rattle.std.proofs.Common.{◌≡◌, drop}
use Rattle.q_logic.specs.Prelude.{shares}
use Rattle.q_expand.proofs.splitting.shares.Given as goal

abbrev pub invariant-loop-k : goal.invariant-loop-k
invariant-loop-k l = shares l.order l.clause ≡ shares l.order (drop l.k-index l.clause)
