pub mod SolvedLines
pub mod Reduces
pub mod Solves
