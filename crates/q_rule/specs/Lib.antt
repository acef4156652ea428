pub mod Looks
pub mod Marks
pub mod Quants
pub mod Becoming
pub mod Searching
