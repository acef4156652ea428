pub mod Gates
pub mod Uses
pub mod Sorting
pub mod Spreading
pub mod Levels
