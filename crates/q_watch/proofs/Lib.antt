pub mod RowLemmas
pub mod QuietClauses
pub mod MovedWatches
