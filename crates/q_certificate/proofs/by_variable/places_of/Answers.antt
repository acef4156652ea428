use Rattle.q_certificate.proofs.VariableTables.{places-more}
use Rattle.q_certificate.proofs.by_variable.places_of.Goals as goal

pub loop-i-preserved : goal.loop-i-preserved
loop-i-preserved c = places-more c.args.names.now c.loop-i.i c.loop-i.table.items c.put.new.row.items c.requires c.loop-i-test.true c.loop-i.invariant c.in_ok-put.ensures.ok
