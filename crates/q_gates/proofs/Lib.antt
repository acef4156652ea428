pub mod GateWalk
pub mod SearchSteps
pub mod LowerGates
