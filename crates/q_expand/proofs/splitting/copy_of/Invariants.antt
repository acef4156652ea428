use Rattle.std.proofs.Common.{◌≡◌, ◌+◌, drop}
use Rattle.q_logic.specs.Prelude.{copy_of}
use Rattle.q_expand.proofs.splitting.copy_of.Given as goal

abbrev pub invariant-loop-i : goal.invariant-loop-i
invariant-loop-i l = copy_of l.order l.first l.var ≡ copy_of (drop l.i l.order) (l.first + l.i) l.var
