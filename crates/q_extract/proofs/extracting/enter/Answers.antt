use Rattle.std.proofs.Common.{ap}
use Rattle.q_logic.specs.Prelude.{is_exists}
use Rattle.q_extract.specs.Rows.{guards_in, drops_in}
use Rattle.q_extract.proofs.Entered.{next-exists}
use Rattle.q_extract.proofs.extracting.enter.Goals as goal

pub returns-in_ok-put-in-Exists-clause-next : goal.returns-in_ok-put-in-Exists-clause-next
returns-in_ok-put-in-Exists-clause-next c =
    next-exists c.args.aig.now c.decide.new.aig c.args.tables.now.inputs.items c.args.tables.now.circuits.items c.put.new.row.items (guards_in c.args.drops.now) c.args.held.now.items c.decide.new.held.items c.args.bound (drops_in c.args.drops.now) c.in_ok-circuit-in-Exists.circuit
    (ap is_exists c.in-Exists.is) c.requires.inputs c.requires.circuits c.in_ok-circuit-in-Exists.ensures c.in_ok-put-in-Exists.ensures.ok
