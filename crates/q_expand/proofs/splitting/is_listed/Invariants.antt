use Rattle.std.proofs.Common.{◌≡◌, drop}
use Rattle.q_logic.specs.Prelude.{in_list}
use Rattle.q_expand.proofs.splitting.is_listed.Given as goal

abbrev pub invariant-loop-x : goal.invariant-loop-x
invariant-loop-x l = in_list l.var l.order ≡ in_list l.var (drop l.x-index l.order)
