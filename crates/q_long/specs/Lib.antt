pub mod Valued
pub mod Decided
pub mod Distant
