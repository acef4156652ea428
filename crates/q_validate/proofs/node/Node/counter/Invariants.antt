use Rattle.std.proofs.Common.{◌≡◌, ◌++◌, drop}
use Rattle.q_logic.specs.Branches.{true_literals, counter_at}
use Rattle.q_validate.specs.Stands.{claim_at, node_of}
use Rattle.q_validate.proofs.node.Node.counter.Given as goal

abbrev pub invariant-loop-bound : goal.invariant-loop-bound
invariant-loop-bound l =
    l.lits ++ true_literals (drop l.bound-index l.self.formula.prefix) (counter_at (claim_at l.self) (node_of l.self))
    ≡ true_literals l.self.formula.prefix (counter_at (claim_at l.self) (node_of l.self))
