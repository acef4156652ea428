use Rattle.std.proofs.Common.{[]}
use Rattle.q_log.specs.Reading.{to_come}
use Rattle.q_run_annotate.proofs.AnnotatedSteps.{ends-none, ends-some, ended_now, ended_step, refuses_last, refuses_end}
use Rattle.q_run_annotate.proofs.reading.Reading.take_last.Goals as goal

pub returns-in-Ok-None-clause-ended : goal.returns-in-Ok-None-clause-ended
returns-in-Ok-None-clause-ended c =
    ended_now c.args.self (ends-none c.in-Ok-None.field-0 (to_come c.args.self.reader []) c.in-Ok-None.field-0-is c.in-Ok-None.ensures.end)

pub returns-in-Ok-clause-ended : goal.returns-in-Ok-clause-ended
returns-in-Ok-clause-ended c =
    ended_step c.args.self c.take.new.self c.in-Ok-Some.line c.in-Ok-Some.step c.in-Ok.ensures.goes
    (ends-some c.in-Ok-Some.field-0 (to_come c.args.self.reader []) (c.in-Ok-Some.line, c.in-Ok-Some.step) c.in-Ok-Some.field-0-is c.in-Ok-Some.ensures.end)

pub returns-in-Err-take-clause-refused : goal.returns-in-Err-take-clause-refused
returns-in-Err-take-clause-refused c =
    refuses_last c.args.self c.in-Err-take.outcome (c.in-Ok-Some.line, c.in-Ok-Some.step) c.in-Err-take.ensures.refused
    (ends-some c.in-Ok-Some.field-0 (to_come c.args.self.reader []) (c.in-Ok-Some.line, c.in-Ok-Some.step) c.in-Ok-Some.field-0-is c.in-Ok-Some.ensures.end)

pub returns-in-Err-clause-refused : goal.returns-in-Err-clause-refused
returns-in-Err-clause-refused c = refuses_end c.args.self c.in-Err.error c.log_refusal.result c.log_refusal.ensures.is c.in-Err.ensures.end
