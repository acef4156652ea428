pub mod WrittenFiles
pub mod KeptFiles
pub mod RisenFaults
pub mod SolveParts
pub mod SolveStatus
