mod TracePieces
mod ExtractFiles
pub mod ExtractStatus
