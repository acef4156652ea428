pub mod Merged
pub mod Chained
pub mod Walked
pub mod Entered
