use Rattle.q_run_apply.proofs.AppliedLogs.{can-be-made, same-made}
use Rattle.q_run_apply.proofs.law.verified_logs_are_applied.Goals as goal

pub returns-clause-made : goal.returns-clause-made
returns-clause-made c = λ F G H n log l m. same-made F G log l n H m

pub returns-clause-can : goal.returns-clause-can
returns-clause-can c = λ F G log l. can-be-made F G log l
