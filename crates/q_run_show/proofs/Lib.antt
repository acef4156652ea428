pub mod LentLemmas
pub mod NamedSteps
pub mod ShownSteps
pub mod ShownEnds
pub mod ProofReading
pub mod ShowOutcome
pub mod ShowStatus
pub mod ShownLog
