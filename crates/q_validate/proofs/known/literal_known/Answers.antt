use Rattle.std.proofs.Common.{◌++◌, [], List, Bool, ap, ◌∙◌}
use Rattle.q_logic.specs.Prelude.{Circuit, node_tree, gate_trees}
use Rattle.q_logic.specs.Branches.{known_signed}
use Rattle.q_aig.specs.Prelude.{operand_of, tree_at}
use Rattle.q_validate.specs.Stands.{unset, values, known_along}
use Rattle.q_validate.proofs.NodeValues.{signed-tree}
use Rattle.q_validate.proofs.known.literal_known.Goals as goal

pub returns : goal.returns
returns g c =
    let a = c.args.aig.now in
    let p = c.args.path.now in
    let t : Circuit = node_tree a.inputs (gate_trees a.inputs [] a.gates) (operand_of c.args.lit).node in
    let f = λ (w : List Bool). known_along a.inputs (p ++ w) t in
    g.met.T.Below.says_same c.signed.result (λ w. known_signed c.is_negated.result (f w)) (λ w. known_along a.inputs (p ++ w) (tree_at a c.args.lit))
    (c.signed.ensures f c.plain_known.ensures)
    (λ w. ap (λ (b : Bool). known_signed b (f w)) c.is_negated.ensures
    ∙ signed-tree (operand_of c.args.lit).negated (unset a.inputs (p ++ w)) (values a.inputs (p ++ w)) t)
