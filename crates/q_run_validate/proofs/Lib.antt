pub mod ValidateStatus
pub mod ValidateOutcome
