use Rattle.std.proofs.Common.{map, ap, ◌∙◌, Option, None, ℕ}
use Rattle.std.proofs.lemmas.List.{map_push}
use Rattle.q_gates.specs.Gates.{gate_view, gates_view}
use Rattle.q_herbrand.proofs.SlotNodes.{slot-nodes-more}
use Rattle.q_herbrand.proofs.nodes.push_slots.Goals as goal

pub loop-slot-preserved : goal.loop-slot-preserved
loop-slot-preserved c =
    slot-nodes-more c.args.aig.now c.args.count c.args.definitions.now c.loop-slot.slot
    (gates_view c.loop-slot.nodes.items) (gates_view c.push.new.self.items) (gate_view c.gate_of.result)
    c.loop-slot.invariant
    (ap (map gate_view) c.in_ok-push.ensures.items ∙ map_push gate_view c.loop-slot.nodes.items c.gate_of.result)
    (c.gate_of.ensures ∙ ap (λ (p : Option ℕ). (p, None)) c.filled_source-left.ensures)
