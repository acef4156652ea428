use Rattle.std.proofs.Common.{map, ap, ap₂, ◌∙◌, Option, ℕ}
use Rattle.std.proofs.lemmas.List.{map_push}
use Rattle.q_aig.specs.Prelude.{gate_of}
use Rattle.q_gates.specs.Gates.{gate_view, gates_view}
use Rattle.q_herbrand.proofs.SlotNodes.{gate-nodes-more}
use Rattle.q_herbrand.proofs.nodes.push_gates.Goals as goal

pub loop-gate-preserved : goal.loop-gate-preserved
loop-gate-preserved c =
    gate-nodes-more c.args.aig.now c.args.count (gates_view c.args.nodes.now.items) c.loop-gate.gate
    (gates_view c.loop-gate.nodes.items) (gates_view c.push.new.self.items) (gate_view c.gate_of.result)
    (gate_of c.operands-left.result) c.loop-gate.invariant
    (ap (map gate_view) c.in_ok-push.ensures.items ∙ map_push gate_view c.loop-gate.nodes.items c.gate_of.result)
    c.operands-left.ensures.value
    (c.gate_of.ensures ∙ ap₂ (λ (p q : Option ℕ). (p, q)) c.source_of-left.ensures c.source_of-right.ensures)
