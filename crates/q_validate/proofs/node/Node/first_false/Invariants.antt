use Rattle.std.proofs.Common.{◌≡◌, drop}
use Rattle.q_logic.specs.Branches.{first_false}
use Rattle.q_validate.specs.Stands.{claim_at, node_of}
use Rattle.q_validate.proofs.node.Node.first_false.Given as goal

abbrev pub invariant-loop-i : goal.invariant-loop-i
invariant-loop-i l = first_false (claim_at l.self) (node_of l.self) l.self.formula.matrix ≡ first_false (claim_at l.self) (node_of l.self) (drop l.i l.self.formula.matrix)
