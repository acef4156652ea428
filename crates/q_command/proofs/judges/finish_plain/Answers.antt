use Rattle.std.proofs.Common.{false}
use Rattle.q_command.proofs.BothCheckers.{ended-plain, stopped-plain, ended-held, stopped-held, filled-plain-some}
use Rattle.q_command.proofs.judges.finish_plain.Goals as goal

pub finish-requires : goal.finish-requires
finish-requires c =
    filled-plain-some false c.args.origin.now c.args.plain c.fill.new.self c.in_ok-fill.ensures.ready

pub returns-clause-passed : goal.returns-clause-passed
returns-clause-passed c =
    ended-held c.args.origin.now c.finish.result _
    (λ F held. ended-plain false F c.args.output.now c.finish.result c.args.plain c.fill.new.self (c.in_ok-fill.ensures.ready F held) c.finish.ensures)

pub returns-clause-refused : goal.returns-clause-refused
returns-clause-refused c =
    stopped-held c.args.origin.now c.finish.result _
    (λ F held. stopped-plain false F c.args.output.now c.finish.result c.args.plain c.fill.new.self (c.in_ok-fill.ensures.ready F held) c.finish.ensures)
