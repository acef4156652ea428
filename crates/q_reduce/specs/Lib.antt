pub mod Targets
pub mod Walks
pub mod Paths
pub mod Forests
pub mod Searches
pub mod Regions
pub mod Learned
