pub mod Boxed
pub mod AppliedLines
pub mod Applications
pub mod Readings
