use Rattle.q_herbrand.proofs.BuiltNodes.{gate-copied}
use Rattle.q_herbrand.proofs.building.copy_gate.Goals as goal

pub returns : goal.returns
returns c =
    gate-copied c.args.draft.now c.args.aig.now c.and.new.self c.args.made.now c.args.gate
    c.operands-left.result.0 c.operands-left.result.1 c.literal-a.result c.literal-b.result c.in_ok-lit.lit
    c.inputs.ensures.net c.operands-left.ensures.value c.literal-a.ensures c.literal-b.ensures c.in_ok-lit.ensures.conjunction
