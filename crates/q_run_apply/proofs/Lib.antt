pub mod MadeSteps
pub mod WordsRead
pub mod ApplyReading
pub mod ApplyOutcome
pub mod ApplyStatus
pub mod AppliedLogs
