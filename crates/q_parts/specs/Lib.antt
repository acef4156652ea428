pub mod LogParts
pub mod CheckedParts
