use Rattle.std.proofs.Common.{◌≡◌, ◌++◌, Bool, ap, sym, ◌∙◌, subst}
use Rattle.q_logic.specs.Branches.{known_signed}
use Rattle.q_aig.specs.Prelude.{Net, tree_at, net_of}
use Rattle.q_validate.specs.Stands.{Spot, known_along, AreTold}
use Rattle.q_validate.proofs.node.Node.circuit_literal.Goals as goal

pub literal_known-requires-clause-row : goal.literal_known-requires-clause-row
literal_known-requires-clause-row g c =
    let e : c.aig.result.now ≡ net_of c.args.self.now.certificate = c.aig.ensures ∙ ap (λ (t : Spot). net_of t.certificate) c.self.view_is in
    subst (λ (a : Net). AreTold g.T.Below.Says a c.args.path.now c.args.row.now) (sym e) c.requires.row.1

pub returns : goal.returns
returns g c =
    let p = c.args.path.now in
    let e : c.aig.result.now ≡ net_of c.args.self.now.certificate = c.aig.ensures ∙ ap (λ (t : Spot). net_of t.certificate) c.self.view_is in
    subst (λ (a : Net). g.T.Below.Says c.signed.result (λ w. known_signed c.args.lit.negative (known_along a.inputs (p ++ w) (tree_at a c.args.circuit)))) e
    (subst (λ (b : Bool). g.T.Below.Says c.signed.result (λ w. known_signed b (known_along c.aig.result.now.inputs (p ++ w) (tree_at c.aig.result.now c.args.circuit)))) c.negative.ensures
    (c.signed.ensures (λ w. known_along c.aig.result.now.inputs (p ++ w) (tree_at c.aig.result.now c.args.circuit)) c.literal_known.ensures))
