pub mod Rows
pub mod Watches
pub mod Visits
