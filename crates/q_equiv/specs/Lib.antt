pub mod Walks
pub mod Changing
pub mod Targets
pub mod Searches
