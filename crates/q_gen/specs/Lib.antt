pub mod Generated
pub mod Outputs
