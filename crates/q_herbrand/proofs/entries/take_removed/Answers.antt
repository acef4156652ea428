use Rattle.q_certificate.proofs.CircuitParts.{undone-removed}
use Rattle.q_herbrand.proofs.FalseLiterals.{carried-removed}
use Rattle.q_herbrand.proofs.entries.take_removed.Goals as goal

pub returns-clause-carried : goal.returns-clause-carried
returns-clause-carried c =
    carried-removed c.args.aig.now c.args.aig.now c.args.tables.now.inputs.items c.args.tables.now.circuits.items
    c.put.new.row.items c.args.var
    (undone-removed c.args.aig.now c.args.tables.now.inputs.items c.args.tables.now.circuits.items
    c.put.new.row.items c.args.var c.constant.result c.requires.circuits c.constant.ensures.node
    c.constant.ensures.value c.in_ok-put.ensures.ok)
