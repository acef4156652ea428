use Rattle.std.proofs.lemmas.Result.{on_ok_weaker}
use Rattle.q_herbrand.proofs.SlotCircuits.{taken-turned, taken-plain, taken-removed}
use Rattle.q_herbrand.proofs.entries.take_entry.Goals as goal

pub returns-in-Turned-clause-taken : goal.returns-in-Turned-clause-taken
returns-in-Turned-clause-taken c =
    rw (c.in-Turned.is)
    (on_ok_weaker c.take_turned.result
    (taken-turned c.args.aig.now c.take_turned.new.aig c.args.tables.now.inputs.items
    c.args.tables.now.circuits.items c.take_turned.new.tables.circuits.items c.args.slots.now c.in-Turned.pivot
    c.in-Turned.outer c.requires) c.take_turned.ensures.carried)

pub returns-in-Plain-clause-taken : goal.returns-in-Plain-clause-taken
returns-in-Plain-clause-taken c =
    rw (c.in-Plain.is)
    (on_ok_weaker c.take_plain.result
    (taken-plain c.args.aig.now c.take_plain.new.aig c.args.tables.now.inputs.items
    c.args.tables.now.circuits.items c.take_plain.new.tables.circuits.items c.args.slots.now c.in-Plain.pivot
    c.in-Plain.same c.in-Plain.inner c.requires)
    (rw (c.as_slice.ensures, c.as_slice-in-Plain.ensures) at c.take_plain.ensures.carried))

pub returns-in-Removed-clause-taken : goal.returns-in-Removed-clause-taken
returns-in-Removed-clause-taken c =
    rw (c.in-Removed.is)
    (on_ok_weaker c.take_removed.result
    (taken-removed c.args.aig.now c.args.aig.now c.args.tables.now.inputs.items c.args.tables.now.circuits.items
    c.take_removed.new.tables.circuits.items c.args.slots.now c.in-Removed.var c.requires)
    c.take_removed.ensures.carried)
