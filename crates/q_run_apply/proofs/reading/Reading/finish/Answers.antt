use Rattle.q_run_apply.specs.declared.applied.Applied.TheVariants as outcome
use Rattle.q_run_apply.proofs.ApplyReading.{leaves_end, leaves_step, leaves_broken, refuses_last, refuses_limit}
use Rattle.q_run_apply.proofs.reading.Reading.finish.Goals as goal

pub returns-in-Ok-None-clause-made : goal.returns-in-Ok-None-clause-made
returns-in-Ok-None-clause-made c = leaves_end c.args.self c.requires c.in-Ok-None.field-0 c.in-Ok-None.field-0-is c.in-Ok-None.ensures.end

pub returns-in-Ok-clause-made : goal.returns-in-Ok-clause-made
returns-in-Ok-clause-made c = leaves_step c.args.self c.requires c.take.new.self c.in-Ok-Some.field-0 _ c.in-Ok-Some.field-0-is c.in-Ok.ensures.goes c.in-Ok-Some.ensures.end

pub returns-in-Err-clause-refused : goal.returns-in-Err-clause-refused
returns-in-Err-clause-refused c = refuses_last c.args.self c.requires c.in-Err.outcome c.in-Ok-Some.field-0 _ c.in-Ok-Some.field-0-is c.in-Err.ensures.convicts c.in-Ok-Some.ensures.end

pub returns-in-Err-BadLine-clause-made : goal.returns-in-Err-BadLine-clause-made
returns-in-Err-BadLine-clause-made c = leaves_broken c.args.self c.requires c.in-Err-BadLine.field-0 c.in-Err-BadLine.line c.in-Err-BadLine.field-0-is c.in-Err-BadLine.ensures.end

pub returns-in-Err-Limit-clause-refused : goal.returns-in-Err-Limit-clause-refused
returns-in-Err-Limit-clause-refused c = refuses_limit c.args.self c.requires (outcome.RefusedLine c.in-Err-Limit.line 8) c.in-Err-Limit.field-0 c.in-Err-Limit.line c.in-Err-Limit.field-0-is c.in-Err-Limit.ensures.end
