pub mod NotedSteps
pub mod RefuteFiles
pub mod RefuteStatus
