use Rattle.q_herbrand.proofs.InputEntries.{added-new}
use Rattle.q_herbrand.proofs.inputs.add.Goals as goal

pub returns-in_ok-put-in-None : goal.returns-in_ok-put-in-None
returns-in_ok-put-in-None c =
    added-new c.args.aig.now c.input.new.self c.args.inputs.now.items c.put.new.row.items c.args.var
    c.in_ok-lit-in-None.lit c.requires c.in_ok-lit-in-None.ensures.inputs c.in_ok-lit-in-None.ensures.gates
    c.in_ok-lit-in-None.ensures.literal c.in_ok-put-in-None.ensures.ok
