use Rattle.q_hinted.specs.Logs.{Entry as BothEntry}
use Rattle.q_run_show.proofs.ProofReading.{tells_end, tells_end_offence, tells_end_step, tells_last}
use Rattle.q_run_show.proofs.reading.Reading.finish.Goals as goal

pub returns-in-Ok-None-clause-tells : goal.returns-in-Ok-None-clause-tells
returns-in-Ok-None-clause-tells c = tells_end c.args.self c.in-Ok-None.field-0 c.refused.result c.requires c.refused.ensures c.in-Ok-None.field-0-is c.in-Ok-None.ensures.end

pub returns-in-Ok-clause-tells : goal.returns-in-Ok-clause-tells
returns-in-Ok-clause-tells c =
    let e : BothEntry = (c.in-Ok-Some.line, c.in-Ok-Some.step, c.in-Ok-Some.field-0-0-2) in
    tells_end_step c.args.self c.in-Ok-Some.field-0 c.take.new.self c.refused-in-Ok.result e c.requires c.refused-in-Ok.ensures c.in-Ok.ensures.goes
    c.in-Ok-Some.field-0-is c.in-Ok-Some.ensures.end

pub returns-in-Ok-Some-clause-tells : goal.returns-in-Ok-Some-clause-tells
returns-in-Ok-Some-clause-tells c =
    let e : BothEntry = (c.in-Ok-Some.line, c.in-Ok-Some.step, c.in-Ok-Some.field-0-0-2) in
    tells_last c.args.self c.in-Ok-Some.field-0 c.in-Err-take.ending e c.requires c.in-Err-take.ensures.ends c.in-Ok-Some.field-0-is c.in-Ok-Some.ensures.end

pub returns-clause-tells : goal.returns-clause-tells
returns-clause-tells c =
    tells_end_offence c.args.self c.in-Err.error c.log_refusal.result c.refused-in-Err.result c.requires c.refused-in-Err.ensures c.log_refusal.ensures.is
    c.in-Err.ensures.end
