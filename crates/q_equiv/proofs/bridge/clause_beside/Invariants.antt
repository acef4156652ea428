use Rattle.std.proofs.Common.{All}
use Rattle.q_equiv.proofs.BridgeNeighbours.{IsOfBridge}
use Rattle.q_equiv.proofs.bridge.clause_beside.Given as goal

abbrev pub invariant-loop-id : goal.invariant-loop-id
invariant-loop-id l = All (λ c. IsOfBridge l.bridge c) l.yielded
