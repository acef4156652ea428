pub mod BinaryProofs
pub mod ByteSteps
pub mod GroupValues
pub mod FormSteps
