use Rattle.std.proofs.Common.{◌++◌, take}
use Rattle.q_validate.specs.Below.{known_clauses}
use Rattle.q_validate.specs.Stands.{claim_at, unset, values}
use Rattle.q_validate.proofs.node.Node.formula_known.Given as goal

abbrev pub invariant-loop-i : goal.invariant-loop-i
invariant-loop-i g l =
    g.T.Below.Says l.all
    (λ w. known_clauses (claim_at l.self) (unset l.self.certificate.inputs (l.path ++ w)) (values l.self.certificate.inputs (l.path ++ w)) (take l.i l.self.formula.matrix))
