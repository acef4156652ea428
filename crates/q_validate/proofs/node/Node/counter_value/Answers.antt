use Rattle.std.proofs.Common.{◌<◌, length, ℕ, Bool, List, cond, ap, sym, ◌∙◌, subst, get_or, false}
use Rattle.q_logic.specs.Branches.{denial}
use Rattle.q_aig.specs.Prelude.{AreDistinct}
use Rattle.q_validate.specs.Stands.{Spot, values}
use Rattle.q_validate.proofs.KnownValues.{values-at}
use Rattle.q_validate.proofs.node.Node.counter_value.Goals as goal

pub returns-in-Some : goal.returns-in-Some
returns-in-Some c =
    let s = c.args.self.now in
    let v = c.args.var in
    let p = c.in-Some.ensures.place in
    let d : AreDistinct s.certificate.inputs = c.in-Some.ensures.net.distinct in
    c.value_or_zero.ensures
    ∙ ap (λ (vs : List Bool). get_or vs c.in-Some.place false) (c.deref.ensures.value ∙ ap (λ (t : Spot). t.path) c.self.view_is)
    ∙ ap (λ (i : ℕ). get_or s.path i false) p.0
    ∙ sym (values-at s.certificate.inputs s.path v d (subst (λ (i : ℕ). i < length s.certificate.inputs) p.0 p.1))
    ∙ sym (ap (λ (b : Bool). cond b (values s.certificate.inputs s.path v) (denial c.args.clause.now v)) p.2)
