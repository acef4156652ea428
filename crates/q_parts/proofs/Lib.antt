mod JoinedLogs
mod JoinedFiles
mod SameWords
mod CheckedParts
pub mod RisingLines
pub mod RisingEntries
mod LeastRefusals
