pub mod LinkSteps
pub mod ExactLists
