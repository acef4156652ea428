pub mod Ids
pub mod Targets
pub mod Dependents
pub mod Tracks
pub mod Steps
pub mod Apart
pub mod Rooms
