pub mod Saying
pub mod Merges
pub mod Rows
pub mod Built
