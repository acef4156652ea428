use Rattle.std.proofs.Common.{◌∙◌}
use Rattle.q_encode.proofs.WholeMiters.{herbrand-made}
use Rattle.q_encode.proofs.herbrand.herbrand_clauses.Goals as goal

pub returns : goal.returns
returns c =
    c.finish.ensures ∙
    herbrand-made c.args.formula.now c.args.circuits.now c.args.top c.aig.result.now c.new-rows.result c.put_definitions.new.rows c.put_clauses.new.rows
    c.requires.top c.aig.ensures c.new-rows.ensures c.in_ok-put_definitions.ensures
    (c.in_ok-put_clauses.ensures c.args.top c.args.circuits.now c.in_ok-circuit_lits.ensures)
