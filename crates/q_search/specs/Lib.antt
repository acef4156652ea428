pub mod Paths
pub mod Budgets
pub mod Walks
pub mod PlaceTables
