use Rattle.std.proofs.Common.{◌≡◌, drop}
use Rattle.q_logic.specs.Branches.{both_missing}
use Rattle.q_validate.specs.Stands.{claim_at}
use Rattle.q_validate.proofs.node.Node.both_missing.Given as goal

abbrev pub invariant-loop-i : goal.invariant-loop-i
invariant-loop-i l = both_missing (claim_at l.self) l.clause ≡ both_missing (claim_at l.self) (drop l.i l.clause)
