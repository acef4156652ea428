use Rattle.std.proofs.Common.{◌≡◌, ◌+◌, ◌-◌, ◌<◌, length, refl, arith}
use Rattle.q_herbrand.proofs.BuiltNodes.{slot-built, gate-built}
use Rattle.q_herbrand.proofs.building.build.Goals as goal

pub returns-then-node-count : goal.returns-then-node-count
returns-then-node-count c =
    let n : c.len-count.result ≡ length c.args.slots.now.definitions.items =
    omega (arith, c.len-count.ensures, c.args.slots.now.definitions.ok.0) in
    let t : c.args.node < c.len-count.result = c.if-node-count.true in
    slot-built c.args.draft.now c.args.aig.now c.args.slots.now c.args.inputs.now.items c.args.made.now _ c.args.node
    c.slot_literal-lit.result c.requires.slots c.requires.owned c.requires.inputs c.requires.at c.requires.rows
    (omega arith) c.slot_literal-lit.ensures refl refl

pub returns-in_ok-lit : goal.returns-in_ok-lit
returns-in_ok-lit c =
    let n : c.len-count.result ≡ length c.args.slots.now.definitions.items =
    omega (arith, c.len-count.ensures, c.args.slots.now.definitions.ok.0) in
    let below : c.args.node < length c.args.slots.now.definitions.items + length c.args.draft.now.gates =
    c.requires.node in
    gate-built c.args.draft.now c.args.aig.now c.copy_gate.new.aig c.args.slots.now c.args.made.now _ c.args.node
    (c.args.node - c.len-count.result) c.in_ok-lit.lit c.requires.rows (omega arith) (omega arith) (omega arith)
    c.in_ok-lit.ensures refl refl
