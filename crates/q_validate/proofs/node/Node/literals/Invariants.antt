use Rattle.std.proofs.Common.{◌++◌, take}
use Rattle.q_validate.specs.Below.{known_literals}
use Rattle.q_validate.specs.Stands.{claim_at, unset, values}
use Rattle.q_validate.proofs.node.Node.literals.Given as goal

abbrev pub invariant-loop-lit : goal.invariant-loop-lit
invariant-loop-lit g l =
    g.T.Below.Says l.all
    (λ w. known_literals (claim_at l.self) (unset l.self.certificate.inputs (l.path ++ w)) (values l.self.certificate.inputs (l.path ++ w)) (take l.lit-index l.clause))
