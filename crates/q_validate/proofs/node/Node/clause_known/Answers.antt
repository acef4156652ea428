use Rattle.std.proofs.Common.{◌++◌, true, Some, sym, ◌∙◌}
use Rattle.q_validate.specs.Below.{known_literals}
use Rattle.q_validate.specs.Stands.{claim_at, unset, values, clause_known}
use Rattle.q_validate.proofs.ClauseValues.{clause-told, clause-missing}
use Rattle.q_validate.proofs.node.Node.clause_known.Goals as goal

pub returns-then-both_missing : goal.returns-then-both_missing
returns-then-both_missing g c =
    let q = claim_at c.args.self.now in
    let us = c.args.self.now.certificate.inputs in
    let p = c.args.path.now in
    g.met.T.Below.says_same c.value.result (λ w. Some true) (λ w. clause_known q (p ++ w) c.args.clause.now) c.value.ensures
    (λ w. clause-missing q (unset us (p ++ w)) (values us (p ++ w)) c.args.clause.now (sym c.both_missing.ensures ∙ c.if-both_missing.true))

pub returns : goal.returns
returns g c =
    let q = claim_at c.args.self.now in
    let us = c.args.self.now.certificate.inputs in
    let p = c.args.path.now in
    g.met.T.Below.says_same c.literals.result (λ w. known_literals q (unset us (p ++ w)) (values us (p ++ w)) c.args.clause.now) (λ w. clause_known q (p ++ w) c.args.clause.now)
    c.literals.ensures
    (λ w. clause-told q (unset us (p ++ w)) (values us (p ++ w)) c.args.clause.now (sym c.both_missing.ensures ∙ c.if-both_missing.false))
