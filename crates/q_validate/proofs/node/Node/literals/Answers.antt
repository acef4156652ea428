use Rattle.std.proofs.Common.{◌++◌, ◌+◌, List, Bool, Option, take}
use Rattle.q_validate.specs.Below.{known_literals, known_either}
use Rattle.q_validate.specs.Stands.{claim_at, unset, values, literal_along}
use Rattle.q_validate.proofs.ClauseValues.{literals-more}
use Rattle.q_validate.proofs.node.Node.literals.Goals as goal

pub loop-lit-preserved : goal.loop-lit-preserved
loop-lit-preserved g c =
    let q = claim_at c.args.self.now in
    let us = c.args.self.now.certificate.inputs in
    let p = c.args.path.now in
    let C = c.args.clause.now in
    let i = c.loop-lit.lit-index in
    let k = c.lit-item.result in
    let f : List Bool → Option Bool = λ w. known_literals q (unset us (p ++ w)) (values us (p ++ w)) (take i C) in
    g.met.T.Below.says_same c.or-all.result (λ w. known_either (f w) (literal_along q (p ++ w) k))
    (λ w. known_literals q (unset us (p ++ w)) (values us (p ++ w)) (take (i + 1) C))
    (c.or-all.ensures f (λ w. literal_along q (p ++ w) k) c.loop-lit.invariant c.literal.ensures)
    (λ w. literals-more q (unset us (p ++ w)) (values us (p ++ w)) C i k c.loop-lit-test.true c.lit-item.is)
