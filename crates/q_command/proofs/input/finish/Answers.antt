use Rattle.std.proofs.Common.{ap, Err}
use Rattle.q_logic.specs.Prelude.{standard}
use Rattle.q_command.proofs.FilePieces.{finish_offends}
use Rattle.q_command.proofs.FormulaLimits.{dimacs-limits}
use Rattle.q_command.proofs.input.finish.Goals as goal

pub returns-in-Err-clause-refused : goal.returns-in-Err-clause-refused
returns-in-Err-clause-refused c =
    finish_offends c.in-Err.error c.refusal.result c.args.reader c.refusal.ensures (λ bytes line cause h e. c.in-Err.ensures.refused standard bytes line cause h (ap Err e))

pub returns-in-Ok-clause-limits : goal.returns-in-Ok-clause-limits
returns-in-Ok-clause-limits c = λ bytes h. dimacs-limits standard bytes c.in-Ok.formula (c.in-Ok.ensures.formula standard bytes h)
