pub mod Moves
pub mod Stops
pub mod Logs
pub mod Results
