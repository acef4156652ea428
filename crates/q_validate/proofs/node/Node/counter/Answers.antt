use Rattle.std.proofs.Common.{ap, ◌∙◌}
use Rattle.q_aig.specs.Prelude.{net_of}
use Rattle.q_validate.specs.Lines.{Follows}
use Rattle.q_validate.specs.Stands.{Spot}
use Rattle.q_validate.proofs.NodeValues.{row-told}
use Rattle.q_validate.proofs.node.Node.counter.Goals as goal

pub first_false-clause-requires : goal.first_false-clause-requires
first_false-clause-requires c =
    let s = c.args.self.now in
    row-told Follows c.aig.result.now s.certificate c.deref.result.now s.path c.deref-2.result.now c.fill.new.row.items
    (c.aig.ensures ∙ ap (λ (t : Spot). net_of t.certificate) c.self.view_is)
    (c.deref.ensures.value ∙ ap (λ (t : Spot). t.path) c.self.view_is)
    c.deref-2.ensures.value c.in_ok-fill.ensures.room c.in_ok-fill.ensures.told
