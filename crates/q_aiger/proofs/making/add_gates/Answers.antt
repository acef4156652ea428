use Rattle.std.proofs.Common.{◌≡◌, ◌∙◌, ◌<◌, ◌++◌, ◌∷◌, [], ap, sym, length, Vec, Global, ℕ, List, arith, false, get_or}
use Rattle.std.proofs.lemmas.List.{length-map, length-set}
use Rattle.q_logic.specs.Prelude.{Gate, gate_at}
use Rattle.q_gates.specs.declared.gate.Source.TheVariants.{Constant}
use Rattle.q_gates.specs.Gates.{gate_view, gates_view}
use Rattle.q_aiger.specs.Making.{plain, first_gates, gate_through}
use Rattle.q_aiger.proofs.GatePlaces.{gates-turn, first-more, row-more, length-first}
use Rattle.q_aiger.proofs.making.add_gates.Goals as goal

pub add_gate-requires-clause-left : goal.add_gate-requires-clause-left
add_gate-requires-clause-left c = (gates-turn c.args.gates.now c.args.order.now c.loop-gate.gate-index c.args.rows.now.inputs.items c.loop-gate.rows.inputs.items c.loop-gate.rows.gates.items (record { left = record { source = Constant; negated = false }; right = record { source = Constant; negated = false } }) c.args.aig.now.inputs c.loop-gate.aig.inputs c.loop-gate.aig.gates c.requires.order c.requires.there c.requires.inputs (ap (λ (v : Vec ℕ Global). v.items) c.loop-gate.invariant.input_row) c.loop-gate.invariant.room c.loop-gate.invariant.row c.loop-gate-test.true c.loop-gate.invariant.inputs c.loop-gate.invariant.gates).left

pub add_gate-requires-clause-right : goal.add_gate-requires-clause-right
add_gate-requires-clause-right c = (gates-turn c.args.gates.now c.args.order.now c.loop-gate.gate-index c.args.rows.now.inputs.items c.loop-gate.rows.inputs.items c.loop-gate.rows.gates.items (record { left = record { source = Constant; negated = false }; right = record { source = Constant; negated = false } }) c.args.aig.now.inputs c.loop-gate.aig.inputs c.loop-gate.aig.gates c.requires.order c.requires.there c.requires.inputs (ap (λ (v : Vec ℕ Global). v.items) c.loop-gate.invariant.input_row) c.loop-gate.invariant.room c.loop-gate.invariant.row c.loop-gate-test.true c.loop-gate.invariant.inputs c.loop-gate.invariant.gates).right

pub add_gate-requires-clause-left_literal : goal.add_gate-requires-clause-left_literal
add_gate-requires-clause-left_literal c = (gates-turn c.args.gates.now c.args.order.now c.loop-gate.gate-index c.args.rows.now.inputs.items c.loop-gate.rows.inputs.items c.loop-gate.rows.gates.items (record { left = record { source = Constant; negated = false }; right = record { source = Constant; negated = false } }) c.args.aig.now.inputs c.loop-gate.aig.inputs c.loop-gate.aig.gates c.requires.order c.requires.there c.requires.inputs (ap (λ (v : Vec ℕ Global). v.items) c.loop-gate.invariant.input_row) c.loop-gate.invariant.room c.loop-gate.invariant.row c.loop-gate-test.true c.loop-gate.invariant.inputs c.loop-gate.invariant.gates).left_literal

pub add_gate-requires-clause-right_literal : goal.add_gate-requires-clause-right_literal
add_gate-requires-clause-right_literal c = (gates-turn c.args.gates.now c.args.order.now c.loop-gate.gate-index c.args.rows.now.inputs.items c.loop-gate.rows.inputs.items c.loop-gate.rows.gates.items (record { left = record { source = Constant; negated = false }; right = record { source = Constant; negated = false } }) c.args.aig.now.inputs c.loop-gate.aig.inputs c.loop-gate.aig.gates c.requires.order c.requires.there c.requires.inputs (ap (λ (v : Vec ℕ Global). v.items) c.loop-gate.invariant.input_row) c.loop-gate.invariant.room c.loop-gate.invariant.row c.loop-gate-test.true c.loop-gate.invariant.inputs c.loop-gate.invariant.gates).right_literal

pub loop-gate-preserved : goal.loop-gate-preserved
loop-gate-preserved c =
    let t = gates-turn c.args.gates.now c.args.order.now c.loop-gate.gate-index c.args.rows.now.inputs.items c.loop-gate.rows.inputs.items c.loop-gate.rows.gates.items (record { left = record { source = Constant; negated = false }; right = record { source = Constant; negated = false } }) c.args.aig.now.inputs c.loop-gate.aig.inputs c.loop-gate.aig.gates c.requires.order c.requires.there c.requires.inputs (ap (λ (v : Vec ℕ Global). v.items) c.loop-gate.invariant.input_row) c.loop-gate.invariant.room c.loop-gate.invariant.row c.loop-gate-test.true c.loop-gate.invariant.inputs c.loop-gate.invariant.gates in
    let len : length (gates_view c.args.gates.now) ≡ length c.args.gates.now = length-map c.args.gates.now gate_view in
    let below : get_or c.args.order.now c.loop-gate.gate-index 0 < length (gates_view c.args.gates.now) = c.requires.order.sorted.there c.loop-gate.gate-index c.loop-gate-test.true in
    let room : length c.loop-gate.rows.gates.items ≡ length c.args.gates.now = c.loop-gate.invariant.room in
    let size : length c.loop-gate.aig.gates ≡ c.loop-gate.gate-index = ap length c.loop-gate.invariant.gates ∙ length-first c.args.order.now (gates_view c.args.gates.now) c.loop-gate.gate-index (omega arith) in
    record {
      inputs = c.in_ok-lit.ensures.inputs ∙ c.loop-gate.invariant.inputs;
      gates = c.in_ok-lit.ensures.gates ∙ (ap (λ (x : List Gate). x ++ gate_through c.loop-gate.rows.inputs.items c.loop-gate.rows.gates.items (gate_view (get_or c.args.gates.now (get_or c.args.order.now c.loop-gate.gate-index 0) (record { left = record { source = Constant; negated = false }; right = record { source = Constant; negated = false } }))) ∷ []) c.loop-gate.invariant.gates ∙ (ap (λ (x : Gate). first_gates c.args.order.now (gates_view c.args.gates.now) c.loop-gate.gate-index ++ x ∷ []) t.made ∙ sym (first-more c.args.order.now (gates_view c.args.gates.now) c.loop-gate.gate-index c.loop-gate-test.true)));
      row = row-more c.args.order.now c.loop-gate.rows.gates.items c.loop-gate.gate-index c.in_ok-lit.lit c.requires.order.sorted.once c.loop-gate.invariant.row c.loop-gate-test.true (omega arith) (c.in_ok-lit.ensures.literal ∙ ap (λ (x : ℕ). plain (gate_at x)) size);
      room = length-set c.loop-gate.rows.gates.items _ c.in_ok-lit.lit ∙ room;
      input_row = c.loop-gate.invariant.input_row;
    }
