pub mod GateCounts
pub mod MiterOutcome
pub mod MiterStatus
