pub mod TakenBack
pub mod Rebuilt
pub mod Refusals
pub mod Moves
