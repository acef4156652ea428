use Rattle.std.proofs.Common.{refl}
use Rattle.q_logic.proofs.Common.{ok_then}
use Rattle.q_aiger.proofs.OutputCones.{cones-found}
use Rattle.q_aiger.proofs.cones.cones_of.Goals as goal

pub returns : goal.returns
returns c = ok_then c.place_marked.result c.place_marked.ensures
    (λ x p. cones-found c.args.certificate.now c.mark_operands.new.marks.items _ x.kept.items x.places.items c.mark_operands.ensures refl p)
