pub mod Targets
pub mod Sides
pub mod Gains
pub mod Plans
pub mod Growing
