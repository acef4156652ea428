-- The causes for which a log is refused, by number.
use Rattle.std.specs.Prelude.{ℕ}
use Rattle.q_log.specs.declared.error.LogError.{LogError}
use Rattle.q_log.specs.declared.error.LogError.TheVariants.{BadLine, Limit, NoMemory}

-- no memory is no fault of the log
abbrev pub cause_number : LogError → ℕ
cause_number NoMemory = 0
cause_number (BadLine line) = 1
cause_number (Limit line) = 8
