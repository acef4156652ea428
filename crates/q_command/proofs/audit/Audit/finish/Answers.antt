use Rattle.q_logic.proofs.Common.{ok_then}
use Rattle.q_command.proofs.FilePieces.{err_then}
use Rattle.q_command.proofs.LogEnd.{passes_end, concludes_end, concludes_last}
use Rattle.q_command.proofs.audit.Audit.finish.Goals as goal

pub returns-in-Ok-clause-passed : goal.returns-in-Ok-clause-passed
returns-in-Ok-clause-passed c =
    ok_then c.end.result c.end.ensures.passed (λ p h. passes_end c.args.self c.in-Ok.trial c.args.output.now p c.in-Ok.ensures.ended h)

pub returns-in-Ok-clause-refused : goal.returns-in-Ok-clause-refused
returns-in-Ok-clause-refused c =
    err_then c.end.result c.end.ensures.refused (λ w h. concludes_end c.args.self c.in-Ok.trial c.args.output.now w c.in-Ok.ensures.ended h)

pub returns-in-Err-clause-refused : goal.returns-in-Err-clause-refused
returns-in-Err-clause-refused c = concludes_last c.args.self c.args.output.now c.in-Err.outcome c.in-Err.ensures.refused
