pub mod TraceFiles
pub mod ExtractedLines
pub mod Extracts
