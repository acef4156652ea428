pub mod Extended
pub mod Reversing
pub mod RefutedLines
pub mod Refutes
