use Rattle.std.proofs.Common.{arith}
use Rattle.q_run_disprove.proofs.DisproofReading.{tells_conclusion}
use Rattle.q_run_disprove.proofs.reading.Reading.finish.Goals as goal

pub returns-clause-tells : goal.returns-clause-tells
returns-clause-tells c = tells_conclusion c.args.self c.finish.result c.conclude.result c.requires c.finish.ensures.end c.conclude.ensures.concludes

pub returns-clause-fault : goal.returns-clause-fault
returns-clause-fault c = c.conclude.ensures.fault

pub conclude-requires-clause-few : goal.conclude-requires-clause-few
conclude-requires-clause-few c = omega (arith, c.requires.room)
