use Rattle.std.proofs.Common.{refl, take, ap, ◌∙◌}
use Rattle.q_aig.specs.Prelude.{net_of}
use Rattle.q_validate.specs.Stands.{Spot}
use Rattle.q_validate.specs.Words.{Tells}
use Rattle.q_validate.proofs.NodeValues.{row-told}
use Rattle.q_validate.proofs.node.Node.survey.Goals as goal

pub formula_known-requires : goal.formula_known-requires
formula_known-requires c =
    let s = c.args.self.now in
    let p = take c.args.base c.deref.result.now in
    row-told Tells c.aig.result.now s.certificate p p c.deref-2.result.now c.fill.new.row.items
    (c.aig.ensures ∙ ap (λ (t : Spot). net_of t.certificate) c.self.view_is) refl
    c.deref-2.ensures.value c.in_ok-fill.ensures.room c.in_ok-fill.ensures.told
