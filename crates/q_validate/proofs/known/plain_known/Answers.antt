use Rattle.std.proofs.Common.{◌<◌, ◌++◌, [], ◌∙◌, Some, length, slice_get, get_or, sym, ap, subst}
use Rattle.std.proofs.lemmas.Option.{slice_get-get_or}
use Rattle.q_logic.specs.Prelude.{GateNode, IsThere, node_tree, gate_trees, input}
use Rattle.q_validate.specs.Stands.{known_along}
use Rattle.q_validate.proofs.KnownValues.{known-input}
use Rattle.q_validate.proofs.known.plain_known.Goals as goal

pub returns-in-Input : goal.returns-in-Input
returns-in-Input g c =
    let a = c.args.aig.now in
    let p = c.args.path.now in
    let i = c.in-Input.input in
    subst (λ (n : GateNode). g.T.Below.Says c.input_known.result (λ w. known_along a.inputs (p ++ w) (node_tree a.inputs (gate_trees a.inputs [] a.gates) n)))
    c.in-Input.ensures.value
    (g.met.T.Below.says_same c.input_known.result (λ w. slice_get (p ++ w) i) (λ w. known_along a.inputs (p ++ w) (input (get_or a.inputs i 0)))
    c.input_known.ensures (λ w. known-input a.inputs (p ++ w) i c.requires.net.distinct c.in-Input.ensures.there))

pub returns-in-Gate : goal.returns-in-Gate
returns-in-Gate g c =
    let a = c.args.aig.now in
    let p = c.args.path.now in
    let row = c.args.row.now in
    let i = c.in-Gate.gate in
    let k = c.index-row-gate.result in
    let l : i < length row = subst (λ (n : GateNode). IsThere (length a.inputs) (length row) n) (sym c.in-Gate.ensures.value) c.requires.there in
    subst (λ (n : GateNode). g.T.Below.Says k (λ w. known_along a.inputs (p ++ w) (node_tree a.inputs (gate_trees a.inputs [] a.gates) n)))
    c.in-Gate.ensures.value (c.requires.row i k (slice_get-get_or row i k l ∙ ap (λ x. Some x) (sym c.index-row-gate.is)))
