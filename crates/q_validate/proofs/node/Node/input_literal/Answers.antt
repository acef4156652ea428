use Rattle.std.proofs.Common.{◌++◌, ℕ, Bool, Some, slice_get, ap, ◌∙◌, subst, refl}
use Rattle.q_logic.specs.Branches.{known_signed}
use Rattle.q_validate.specs.Stands.{claim_at, literal_along, IsPlace}
use Rattle.q_validate.proofs.KnownValues.{literal-by_input}
use Rattle.q_validate.proofs.node.Node.input_literal.Goals as goal

pub returns-in-Some : goal.returns-in-Some
returns-in-Some g c =
    let s = c.args.self.now in
    let k = c.args.lit in
    let path = c.args.path.now in
    let i = c.in-Some.place in
    let p = subst (λ (v : ℕ). IsPlace s.certificate.inputs v (Some i)) c.var.ensures.value c.in-Some.ensures.place in
    g.met.T.Below.says_same c.signed.result (λ w. known_signed c.negative.result (slice_get (path ++ w) i)) (λ w. literal_along (claim_at s) (path ++ w) k)
    (c.signed.ensures (λ w. slice_get (path ++ w) i) c.input_known.ensures)
    (λ w. ap (λ (b : Bool). known_signed b (slice_get (path ++ w) i)) c.negative.ensures
    ∙ literal-by_input s.formula s.certificate (path ++ w) k i (slice_get (path ++ w) i) c.in-Some.ensures.net.distinct c.requires p.0 p.1 refl)
