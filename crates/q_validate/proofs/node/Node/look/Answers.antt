use Rattle.std.proofs.Common.{◌≡◌, ◌-◌, ◌++◌, List, Bool, length, take, drop, ap, ◌∙◌}
use Rattle.q_validate.specs.Below.{verdict_of}
use Rattle.q_validate.specs.Stands.{Spot, claim_at, unset, values, formula_known}
use Rattle.q_validate.proofs.ClauseValues.{formula-says}
use Rattle.q_validate.proofs.NodeValues.{block-path}
use Rattle.q_validate.proofs.node.Node.look.Goals as goal

pub returns : goal.returns
returns c =
    let s = c.args.self.now in
    let b = c.args.block.base in
    let D = c.deref.result.now in
    let us = s.certificate.inputs in
    let d : D ≡ s.path = c.deref.ensures.value ∙ ap (λ (t : Spot). t.path) c.self.view_is in
    c.at.ensures (λ w. formula_known (claim_at s) (take b s.path ++ w)) c.requires.block.1
    ∙ ap (λ (p : List Bool). verdict_of (formula_known (claim_at s) p))
    (block-path s.path (take (length D - b) (drop b D)) b c.node_at-node.result c.requires.block.0
    (ap (λ (p : List Bool). take (length p - b) (drop b p)) d) c.node_at-node.ensures.path)
    ∙ formula-says (claim_at s) s.formula.matrix (unset us s.path) (values us s.path)
