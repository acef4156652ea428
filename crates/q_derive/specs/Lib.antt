pub mod Derivations
pub mod Extracted
pub mod Testing
pub mod Traces
