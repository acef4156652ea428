-- What is said of a log that is refused.
use Rattle.std.specs.Prelude.{ℕ}
use Rattle.q_log.specs.declared.error.LogError.{LogError}
use Rattle.q_log.specs.declared.error.LogError.TheVariants as log
use Rattle.q_judge.specs.declared.error.CheckError.{CheckError}
use Rattle.q_judge.specs.declared.error.CheckError.TheVariants as check
use Rattle.q_command.specs.declared.outcome.Outcome.{Outcome}
use Rattle.q_command.specs.declared.outcome.Outcome.TheVariants.{RefusedLine, NoMemory}

abbrev pub log_refused : LogError → Outcome
log_refused (log.BadLine n) = RefusedLine n 1
log_refused (log.Limit n) = RefusedLine n 8
log_refused log.NoMemory = NoMemory

abbrev pub step_refused : ℕ → CheckError → Outcome
step_refused n (check.Refused c) = RefusedLine n c
step_refused n check.NoMemory = NoMemory
